-- What `lumintayag_views` answers and leaves in the two lent slices: "The answer is the reader's (number, place, kind, series), with 4 for a table that is too
-- short, and the period's two ends in minutes; on every refusal all cells are 0."
use Rattle.std.specs.Prelude.{ℕ, ◌≡◌, List, cond, eqb, ltb, length, set, Result, Ok, Err}
use Rattle.refusals.specs.Refusals.{table_full}
use Rattle.lists.specs.Zeros.{zeros}
use Rattle.prolog.specs.Prolog.{begin}
use Rattle.guideline.specs.Rows.{rows_of}
use Rattle.states.specs.Moves.{begun}
use Rattle.reader.specs.Items.{items_from}
use Rattle.reader.specs.Reading.{refused_at}
use Rattle.reader.specs.Judging.{judged}
use Rattle.reader.specs.declared.Found.{Found}
use Rattle.views.specs.Layout.{header_pairs, cell_of, view_room}
use Rattle.views.specs.Shown.{items_shown}

-- the table of a document that is accepted, by the rows of its kind
unfoldable pub shown_after : List ℕ → List ℕ → List ℕ → Result ℕ ℕ → List ℕ
shown_after rows doc t (Ok n) = items_shown rows (items_from doc n) 0 t
shown_after rows doc t (Err p) = t

unfoldable pub sheet_shown : List ℕ → List ℕ → List ℕ → List ℕ
sheet_shown rows doc t = shown_after rows doc t (begin doc)

-- what is told, and the table
pub record Sight : Type 0 where
  pub told : Found
  pub table : List ℕ

abbrev pub sight : Found → List ℕ → Sight
sight f t = record { told = f; table = t }

unfoldable pub sight_by : List ℕ → ℕ → Found → Sight
sight_by doc n f = sight f (cond (eqb f.refusal 0) (sheet_shown (rows_of f.kind) doc (zeros n)) (zeros n))

-- into a table of n cells; one that has no room for a header is refused before the document is looked at
unfoldable pub sheet_viewed : List ℕ → ℕ → Sight
sheet_viewed doc n =
    cond (ltb n (cell_of header_pairs)) (sight (refused_at table_full 0 begun) (zeros n)) (sight_by doc n (judged (view_room n) doc n))

-- ---- the exported function

-- refusal, place, kind, series and the period's two ends, in the first cells of k, as far as there are cells, and 0 in those after them
unfoldable pub six_in : ℕ → Found → List ℕ
six_in k f = set (set (set (set (set (set (zeros k) 0 f.refusal) 1 f.place) 2 f.kind) 3 f.series) 4 f.from) 5 f.to

-- with this table lent
abbrev pub views_of : List ℕ → List ℕ → Sight
views_of doc table = sheet_viewed doc (length table)

-- what is answered, and left in the table and in the k cells of the answer
pub record PermittedViews (o : Sight) (k refusal : ℕ) (table answer : List ℕ) : Type 0 where
  pub refuses : refusal ≡ o.told.refusal
  pub shows : table ≡ o.table
  pub puts : answer ≡ six_in k o.told
