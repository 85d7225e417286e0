-- K6: "to send a Beschaffungsanforderung or Kostenblatt from her tables, with a lent text of the unescaped header values and identifications": what is lent, and
-- the content that it gives.
use Rattle.std.specs.Prelude.{ℕ, zero, suc, ◌+◌, ◌*◌, ◌≤◌, ◌≡◌, List, [], ◌∷◌, Bool, true, false, cond, eqb, leb, ℤ, pos, length, get_or, drop}
use Rattle.characters.specs.Says.{all_chars}
use Rattle.columns.specs.Columns.{role_of, series_role, period_role, interval_role}
use Rattle.guideline.specs.Rows.{rows_of}
use Rattle.states.specs.Attributes.{asks_v, asks_scheme}
use Rattle.series.specs.Row.{field_at, cells_of}
use Rattle.series.specs.declared.Field.TheVariants.{FirstRow, Count}
use Rattle.views.specs.Layout.{header_pairs, series_pairs, values_of, first_pair, cell_of}
use Rattle.views.specs.Shown.{pair_view}
use Rattle.trees.specs.Trees.{Trees, none, element}
use Rattle.contents.specs.Said.{AttributeValue, Absent, Given, DtdSaid, TagSaid, given}
use Rattle.wholes.specs.Whole.{whole_text}
use Rattle.amounts.specs.Texts.{amount_text}
use Rattle.escapes.specs.Escaped.{escaped}
use Rattle.layouts.specs.Layout.{layout_of}

-- "a lent text", a pair (start and length in the text) for each attribute value of the header and of a series, laid as views lay them; the number of series, the series
-- table for its first rows and counts, positions and amounts
pub record Draft : Type 0 where
  pub kind : ℕ
  pub text : List ℕ
  pub pairs : List ℕ
  pub count : ℕ
  pub series : List ℕ
  pub positions : List ℕ
  pub amounts : List ℤ

-- ---- a value

-- "An optional element is absent where its cells are 0 and 0 ..; (5, 0) is an empty value."
unfoldable pub is_no_pair : ℕ → ℕ → Bool
is_no_pair start len = cond (eqb start 0) (eqb len 0) false

-- what pair k gives: "The text is literal", so it is escaped
unfoldable pub pair_value : Draft → ℕ → AttributeValue
pair_value d k =
    cond (is_no_pair (get_or d.pairs (cell_of k) 0) (get_or d.pairs (cell_of k + 1) 0)) Absent (Given (escaped (pair_view d.text d.pairs k)))

-- ---- a tag

unfoldable pub no_dtd_said : DtdSaid
no_dtd_said = record { version = Absent; release = Absent; message = Absent }

-- of a row with a `v`, whose first pair is k
unfoldable pub single_tag : Draft → ℕ → ℕ → TagSaid
single_tag d w k =
    record { v = pair_value d k; scheme = cond (asks_scheme w) (pair_value d (k + 1)) Absent; dtd = no_dtd_said; others = false; passable = true }

-- an element is there where one of its attributes is
unfoldable pub is_said : TagSaid → Bool
is_said t = cond (given t.v) true (given t.scheme)

-- of the root: DtdVersion, DtdRelease, DtdBDEWNachrichtenVersion
unfoldable pub root_tag : Draft → TagSaid
root_tag d =
    record {
      v = Absent;
      scheme = Absent;
      dtd = record { version = pair_value d 0; release = pair_value d 1; message = pair_value d 2 };
      others = false;
      passable = true;
    }

-- of a series, its Period, an Interval
unfoldable pub bare_tag : TagSaid
bare_tag = record { v = Absent; scheme = Absent; dtd = no_dtd_said; others = false; passable = true }

-- of Pos and Qty
unfoldable pub number_tag : List ℕ → TagSaid
number_tag t = record { v = Given t; scheme = Absent; dtd = no_dtd_said; others = false; passable = true }

-- ---- the content

-- the elements of single values of the rows from q on, up to a row that has no `v`; k is the first pair of row q, and the rest stands behind them
unfoldable pub singles : Draft → ℕ → ℕ → List ℕ → Trees TagSaid → Trees TagSaid
singles d q k [] behind = behind
singles d q k (w ∷ ws) behind =
    let rest = singles d (suc q) (k + values_of w) ws behind in
    cond (asks_v w) (cond (is_said (single_tag d w k)) (element q (single_tag d w k) none rest) rest) behind

-- n Intervals, from row j of the positions and amounts on; q is the row of Interval, and Pos and Qty come after it
unfoldable pub intervals_from : Draft → ℕ → ℕ → ℕ → Trees TagSaid
intervals_from d q j zero = none
intervals_from d q j (suc n) =
    element q bare_tag
    (element (suc q) (number_tag (whole_text (get_or d.positions j 0))) none
    (element (suc (suc q)) (number_tag (amount_text (get_or d.amounts j (pos 0)))) none none))
    (intervals_from d q (suc j) n)

-- the first row with this role
unfoldable pub role_row : ℕ → List ℕ → ℕ
role_row role [] = 0
role_row role (w ∷ ws) = cond (eqb (role_of w) role) 0 (suc (role_row role ws))

-- the first pair of row q for series i, counted from 0
unfoldable pub pair_for : List ℕ → ℕ → ℕ → ℕ
pair_for rows q i = first_pair rows q + series_pairs * i

-- the elements of single values in row q, of series i: those of the rows after it
unfoldable pub singles_in : Draft → List ℕ → ℕ → ℕ → Trees TagSaid → Trees TagSaid
singles_in d rows q i behind = singles d (suc q) (pair_for rows (suc q) i) (drop (suc q) rows) behind

-- the Period of series i
unfoldable pub period_tree : Draft → List ℕ → ℕ → Trees TagSaid
period_tree d rows i =
    element (role_row period_role rows) bare_tag
    (singles_in d rows (role_row period_role rows) i
    (intervals_from d (role_row interval_role rows) (field_at d.series i FirstRow) (field_at d.series i Count)))
    none

-- n series, from series i on
unfoldable pub series_from : Draft → List ℕ → ℕ → ℕ → Trees TagSaid
series_from d rows i zero = none
series_from d rows i (suc n) =
    element (role_row series_role rows) bare_tag (singles_in d rows (role_row series_role rows) i (period_tree d rows i)) (series_from d rows (suc i) n)

-- the root is row 1
unfoldable pub draft_content : Draft → Trees TagSaid
draft_content d =
    element 1 (root_tag d) (singles_in d (rows_of d.kind) 1 0 (series_from d (rows_of d.kind) 0 d.count)) none

-- "The layout is fixed"
unfoldable pub draft_document : Draft → List ℕ
draft_document d = layout_of (rows_of d.kind) (draft_content d)

-- ---- what is lent holds it

-- "pairs .. past what is lent", and "text that is not UTF-8 or holds no XML character"
unfoldable pub pair_fits : Draft → ℕ → Bool
pair_fits d k =
    cond (leb (get_or d.pairs (cell_of k) 0 + get_or d.pairs (cell_of k + 1) 0) (length d.text)) (all_chars (pair_view d.text d.pairs k)) false

-- "rows past what is lent": those of series i
pub record RowsLent (d : Draft) (i : ℕ) : Type 0 where
  pub positions : field_at d.series i FirstRow + field_at d.series i Count ≤ length d.positions
  pub amounts : field_at d.series i FirstRow + field_at d.series i Count ≤ length d.amounts

-- "Beschaffungsanforderung or Kostenblatt"; each pair and each row that is counted is lent
pub record Lent (d : Draft) : Type 0 where
  pub kind : cond (eqb d.kind 1) true (eqb d.kind 2) ≡ true
  pub pairs : cell_of (header_pairs + series_pairs * d.count) ≤ length d.pairs
  pub values : (k : ℕ) → suc k ≤ header_pairs + series_pairs * d.count → pair_fits d k ≡ true
  pub series : cells_of d.count ≤ length d.series
  pub rows : (i : ℕ) → suc i ≤ d.count → RowsLent d i
