-- The bridge to the reader: the order of tags judged one by one, from a place in the table, as the reader does with `start_of`, `end_of`
-- and `over_of`. Nothing is believed of it that proofs/Theorems.antt does not show.
use Rattle.std.specs.Prelude.{ℕ, List, [], ◌∷◌, ◌++◌, Bool, true, false, Option, Some, None}
use Rattle.structure.specs.Rows.{start_of, end_of, over_of}
use Rattle.trees.specs.Trees.{Sign, Opens, Closes, Trees, none, element}

unfoldable pub on_row : Option ℕ → (ℕ → Bool) → Bool
on_row (Some q) go = go q
on_row None go = false

-- after row r, which is open or closed, the signs are all due, and after them the document may be over
unfoldable pub follows : {A : Type 0} → List ℕ → ℕ → Bool → List (Sign A) → Bool
follows rows r inside [] = over_of rows r inside
follows rows r inside (Opens tag x ∷ s) = on_row (start_of rows r inside x) (λ q. follows rows q true s)
follows rows r inside (Closes x ∷ s) = on_row (end_of rows r inside x) (λ q. follows rows q false s)

-- where the cursor is after elements that stand side by side: at the last one's row, closed; where there is none, where it was
unfoldable pub row_after : {A : Type 0} → ℕ → Trees A → ℕ
row_after r none = r
row_after r (element q tag inner after) = row_after q after

unfoldable pub open_after : {A : Type 0} → Bool → Trees A → Bool
open_after inside none = inside
open_after inside (element q tag inner after) = open_after false after

-- a place in the table: a row, and whether it is open
pub record Place : Type 0 where
  pub row : ℕ
  pub inside : Bool

-- where the cursor is after each sign, as far as they are due
unfoldable pub visited : {A : Type 0} → List ℕ → ℕ → Bool → List (Sign A) → List Place
visited rows r inside [] = []
visited rows r inside (Opens tag x ∷ s) =
    elim (start_of rows r inside x) [ Some q ↦ record { row = q; inside = true } ∷ visited rows q true s | None ↦ [] ]
visited rows r inside (Closes x ∷ s) =
    elim (end_of rows r inside x) [ Some q ↦ record { row = q; inside = false } ∷ visited rows q false s | None ↦ [] ]

-- the rows of elements that are written down: open after an element's start, closed after its end
unfoldable pub places_of : {A : Type 0} → Trees A → List Place
places_of none = []
places_of (element r tag inner after) =
    record { row = r; inside = true } ∷ (places_of inner ++ (record { row = r; inside = false } ∷ places_of after))
