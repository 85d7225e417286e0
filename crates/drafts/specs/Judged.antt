-- K6: "The writer refuses exactly when no document of these kinds, length and room left aside, would be accepted with the given content": whether the content of a draft is
-- legal, told value by value and series by series, with the reader's own rules.
use Rattle.std.specs.Prelude.{ℕ, zero, suc, ◌+◌, List, [], ◌∷◌, ◌++◌, Bool, true, false, cond, ◌&&◌, not, eqb, leb, ltb, ℤ, pos, nat_abs, get_or, drop}
use Rattle.columns.specs.Columns.{role_of, series_role, period_role, original_role}
use Rattle.structure.specs.Rows.{required}
use Rattle.guideline.specs.Rows.{rows_of}
use Rattle.states.specs.Attributes.{asks_v}
use Rattle.series.specs.Row.{field_at}
use Rattle.series.specs.declared.Field.TheVariants.{FirstRow, Count}
use Rattle.views.specs.Layout.{values_of}
use Rattle.contents.specs.Legal.{Period, period_of, quarters_of, element_fits, in_turn, count_fits, is_among, identifications}
use Rattle.drafts.specs.Draft.{Draft, single_tag, is_said, root_tag, role_row, pair_for, draft_content}

-- the single values of the rows at the front, of which the first pair is k: each fits, or is not said and need not come
unfoldable pub singles_fit : Draft → Period → ℕ → List ℕ → Bool
singles_fit d p k [] = true
singles_fit d p k (w ∷ ws) =
    cond (asks_v w)
    (cond (is_said (single_tag d w k)) (element_fits d.kind p w (single_tag d w k)) (not (required w)) && singles_fit d p (k + values_of w) ws)
    true

-- how many of "the five Original elements" are said
unfoldable pub originals_said : Draft → ℕ → List ℕ → ℕ
originals_said d k [] = 0
originals_said d k (w ∷ ws) =
    let rest = originals_said d (k + values_of w) ws in
    cond (asks_v w) (cond (is_said (single_tag d w k)) (cond (eqb (role_of w) original_role) (suc rest) rest) rest) 0

-- the positions of n rows from row j on
unfoldable pub positions_in : Draft → ℕ → ℕ → List ℕ
positions_in d j zero = []
positions_in d j (suc n) = get_or d.positions j 0 ∷ positions_in d (suc j) n

-- "one to five digits, no leading zero"
unfoldable pub all_written : List ℕ → Bool
all_written [] = true
all_written (p ∷ ps) = cond (leb 1 p) (leb p 99999) false && all_written ps

-- "amounts from 10^15 thousandths in size are 12"
unfoldable pub amounts_fit : Draft → ℕ → ℕ → Bool
amounts_fit d j zero = true
amounts_fit d j (suc n) = ltb (nat_abs (get_or d.amounts j (pos 0))) 1000000000000000 && amounts_fit d (suc j) n

-- series i
unfoldable pub series_fits : Draft → List ℕ → Period → ℕ → Bool
series_fits d rows p i =
    let s = suc (role_row series_role rows) in
    let q = suc (role_row period_role rows) in
    let first = field_at d.series i FirstRow in
    let count = field_at d.series i Count in
    singles_fit d p (pair_for rows s i) (drop s rows)
    && singles_fit d p (pair_for rows q i) (drop q rows)
    && cond (eqb (originals_said d (pair_for rows s i) (drop s rows)) 0) true (eqb (originals_said d (pair_for rows s i) (drop s rows)) 5)
    && count_fits d.kind (quarters_of p) count
    && leb 1 count
    && all_written (positions_in d first count)
    && in_turn d.kind (quarters_of p) 0 (positions_in d first count)
    && amounts_fit d first count

-- n series from series i on
unfoldable pub every_series : Draft → List ℕ → Period → ℕ → ℕ → Bool
every_series d rows p i zero = true
every_series d rows p i (suc n) = series_fits d rows p i && every_series d rows p (suc i) n

-- no two are the same
unfoldable pub all_apart : List (List ℕ) → Bool
all_apart [] = true
all_apart (x ∷ xs) = not (is_among x xs) && all_apart xs

unfoldable pub draft_legal : Draft → Bool
draft_legal d =
    let rows = rows_of d.kind in
    let p = period_of rows (draft_content d) in
    element_fits d.kind p (get_or rows 1 0) (root_tag d)
    && singles_fit d p (pair_for rows 2 0) (drop 2 rows)
    && leb 1 d.count
    && every_series d rows p 0 d.count
    && all_apart (identifications rows (draft_content d))

-- ---- what the tables show of it: the rows of each series, one series after the other

unfoldable pub amounts_in : Draft → ℕ → ℕ → List ℤ
amounts_in d j zero = []
amounts_in d j (suc n) = get_or d.amounts j (pos 0) ∷ amounts_in d (suc j) n

-- of n series from series i on
unfoldable pub positions_of : Draft → ℕ → ℕ → List ℕ
positions_of d i zero = []
positions_of d i (suc n) = positions_in d (field_at d.series i FirstRow) (field_at d.series i Count) ++ positions_of d (suc i) n

unfoldable pub amounts_of : Draft → ℕ → ℕ → List ℤ
amounts_of d i zero = []
amounts_of d i (suc n) = amounts_in d (field_at d.series i FirstRow) (field_at d.series i Count) ++ amounts_of d (suc i) n
