-- "For up to 200 series, given their number, tables, kind and N, give each series' total: every amount times the quarter hours it stands (one in kinds 1 and 3; in
-- kind 2 from its Pos to the one before the next Pos, the last through N). A total is told as a whole number and thousandths from 0 to 999, so that -0.001 is -1
-- and 999. The total of all series is told too". A total is an integer, in thousandths; what a machine's word can hold is no matter here.
use Rattle.std.specs.Prelude.{ℕ, zero, suc, ◌+◌, ◌-◌, ◌/◌, ◌%◌, ◌≡◌, List, [], ◌∷◌, ◌++◌, cond, eqb, leb, ltb, ℤ, pos, negsuc, ◌+ℤ◌, ◌*ℤ◌, length, get_or, take}
use Rattle.series.specs.Row.{field_at}
use Rattle.series.specs.declared.Field.TheVariants.{Count}
use Rattle.tables.specs.Cells.{no_amounts}
use Rattle.totals.specs.Rules.{Handed, own_of, totals_refusal}

-- the amount that stands in quarter hour k by the first n rows: that of the last Pos not after it; 0 where there is none
unfoldable pub standing : List ℕ → List ℤ → ℕ → ℕ → ℤ
standing positions amounts zero k = pos 0
standing positions amounts (suc n) k = cond (leb (get_or positions n 0) k) (get_or amounts n (pos 0)) (standing positions amounts n k)

-- f at n numbers from i on
unfoldable pub values_from : (ℕ → ℤ) → ℕ → ℕ → List ℤ
values_from f i zero = []
values_from f i (suc n) = f i ∷ values_from f (suc i) n

unfoldable pub added : List ℤ → ℤ
added [] = pos 0
added (z ∷ zs) = z +ℤ added zs

-- the last quarter hour in which an amount of a series of n Intervals stands: "the last through N" in kind 2; an amount of the other kinds stands in one
unfoldable pub last_quarter : ℕ → ℕ → ℕ → ℕ
last_quarter kind quarters n = cond (eqb kind 2) quarters n

-- the total of rows: the sum over the quarter hours from 1 to the last of what stands there
unfoldable pub rows_total : List ℕ → List ℤ → ℕ → ℤ
rows_total positions amounts last = added (values_from (standing positions amounts (length positions)) 1 last)

-- the same by rows: "every amount times the quarter hours it stands (.. from its Pos to the one before the next Pos, the last through N)". Row j begins to stand
-- at its Pos; after the last row comes the quarter hour after the last one
unfoldable pub stands_from : List ℕ → ℕ → ℕ → ℕ
stands_from positions last j = cond (ltb j (length positions)) (get_or positions j 0) (last + 1)

unfoldable pub row_times : List ℕ → List ℤ → ℕ → ℕ → ℤ
row_times positions amounts last j = get_or amounts j (pos 0) *ℤ pos (stands_from positions last (j + 1) - stands_from positions last j)

unfoldable pub times_total : List ℕ → List ℤ → ℕ → ℤ
times_total positions amounts last = added (values_from (row_times positions amounts last) 0 (length positions))

unfoldable pub series_total : Handed → ℕ → ℤ
series_total g i =
    rows_total (own_of g.series i g.positions) (own_of g.series i g.amounts) (last_quarter g.kind g.quarters (field_at g.series i Count))

unfoldable pub each_total : Handed → List ℤ
each_total g = values_from (series_total g) 0 g.count

-- "a whole number and thousandths from 0 to 999, so that -0.001 is -1 and 999"
unfoldable pub whole_of : ℤ → ℤ
whole_of (pos n) = pos (n / 1000)
whole_of (negsuc n) = negsuc (n / 1000)

unfoldable pub rest_of : ℤ → ℕ
rest_of (pos n) = n % 1000
rest_of (negsuc n) = 999 - n % 1000

unfoldable pub pairs : List ℤ → List ℤ
pairs [] = []
pairs (z ∷ zs) = whole_of z ∷ (pos (rest_of z) ∷ pairs zs)

-- n cells: the pairs from the first cell on, as far as there are cells, and 0 in those after them
unfoldable pub pair_cells : ℕ → List ℤ → List ℤ
pair_cells n zs = take n (pairs zs ++ no_amounts n)

-- "All totals are then 0; those past the last series always are."
unfoldable pub total_cells : ℕ → Handed → List ℤ
total_cells n g = pair_cells n (cond (eqb (totals_refusal g) 0) (each_total g) [])

unfoldable pub sum_cells : ℕ → Handed → List ℤ
sum_cells n g = pair_cells n (cond (eqb (totals_refusal g) 0) (added (each_total g) ∷ []) [])

-- the same in another order
pub data Reordered : List ℤ → List ℤ → Type 0 where
  nothing : Reordered [] []
  first : {z : ℤ} {x y : List ℤ} → Reordered x y → Reordered (z ∷ x) (z ∷ y)
  swapped : {z w : ℤ} {x : List ℤ} → Reordered (z ∷ (w ∷ x)) (w ∷ (z ∷ x))
  after : {x y v : List ℤ} → Reordered x y → Reordered y v → Reordered x v

-- what `lumintayag_totals` answers and leaves in n cells for the totals and m for their sum
pub record PermittedTotals (g : Handed) (n m refusal : ℕ) (totals sum : List ℤ) : Type 0 where
  pub refuses : refusal ≡ totals_refusal g
  pub each : totals ≡ total_cells n g
  pub all : sum ≡ sum_cells m g
