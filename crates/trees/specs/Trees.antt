-- What a legal order of tags is, said without a state: the tags are the spelling of elements, one in another, that conform to the structure table.
-- A table is a list of rows, read by the columns of `structure`: an element's name, the row that it stands in, whether it has to come,
-- whether it may come again. Row 0 is the document as a whole.
use Rattle.std.specs.Prelude.{ℕ, ◌+◌, ◌<◌, ◌≡◌, List, [], ◌∷◌, ◌++◌, ◌⊎◌, Bool, true, false, ◌&&◌, not, length, get_or, eqb, leb, ltb}
use Rattle.structure.specs.Rows.{name_of, parent_of, required, repeated}

-- What a tag says of the order: that an element is opened, or closed, by the number of its name. An empty tag says both.
-- What else a start tag says, its attributes, is an A, which the order does not look at.
pub data Sign (A : Type 0) : Type 0 where
  Opens : A → ℕ → Sign A
  Closes : ℕ → Sign A

-- Elements side by side, each with what stands in it: none, or a first one (the row that it takes, what its tag says, what stands in it)
-- and those after it.
pub data Trees (A : Type 0) : Type 0 where
  none : Trees A
  element : ℕ → A → Trees A → Trees A → Trees A

-- the rows that they take, one for each, from the first to the last; what stands in them is left out
unfoldable pub rows_taken : {A : Type 0} → Trees A → List ℕ
rows_taken none = []
rows_taken (element r tag inner after) = r ∷ rows_taken after

-- how they are written down: an element's name is opened, then comes what stands in it, then the name is closed
unfoldable pub spell : {A : Type 0} → List ℕ → Trees A → List (Sign A)
spell rows none = []
spell rows (element r tag inner after) =
    Opens tag (name_of (get_or rows r 0)) ∷ (spell rows inner ++ (Closes (name_of (get_or rows r 0)) ∷ spell rows after))

-- ---- an element conforms

-- each of these is a row that stands in row p
unfoldable pub Stand : List ℕ → ℕ → List ℕ → Type 0
Stand rows p [] = Unit {0}
Stand rows p (q ∷ qs) = (q < length rows) × (parent_of (get_or rows q 0) ≡ p) × Stand rows p qs

-- after row r comes a later row, or r again where it may come again
unfoldable pub ComesAfter : List ℕ → ℕ → List ℕ → Type 0
ComesAfter rows r [] = Unit {0}
ComesAfter rows r (q ∷ qs) = (r < q) ⊎ ((q ≡ r) × (repeated (get_or rows r 0) ≡ true))

-- "element order, how often each may come": they come in the table's order, and a row again only where it may come again
unfoldable pub InOrder : List ℕ → List ℕ → Type 0
InOrder rows [] = Unit {0}
InOrder rows (q ∷ qs) = ComesAfter rows q qs × InOrder rows qs

unfoldable pub Among : ℕ → List ℕ → Type 0
Among j [] = ⊥
Among j (q ∷ qs) = (j ≡ q) ⊎ Among j qs

-- the elements in row p take these rows
pub record Fits (rows : List ℕ) (p : ℕ) (taken : List ℕ) : Type 0 where
  pub stand : Stand rows p taken
  pub ordered : InOrder rows taken
  -- no row that has to come in p is missing
  pub complete : (j : ℕ) → j < length rows → parent_of (get_or rows j 0) ≡ p → required (get_or rows j 0) ≡ true → Among j taken

-- each of them, and each element in them, has in it what its row asks for
unfoldable pub EachConforms : {A : Type 0} → List ℕ → Trees A → Type 0
EachConforms rows none = Unit {0}
EachConforms rows (element r tag inner after) = Fits rows r (rows_taken inner) × EachConforms rows inner × EachConforms rows after

-- An element of row p with these in it conforms. The document is the element of row 0.
pub record Conforms {A : Type 0} (rows : List ℕ) (p : ℕ) (inner : Trees A) : Type 0 where
  pub fits : Fits rows p (rows_taken inner)
  pub each : EachConforms rows inner

-- ---- a table of which the laws hold: a computed test

-- no row of ws stands where w stands and bears its name
unfoldable pub unlike : ℕ → List ℕ → Bool
unlike w [] = true
unlike w (v ∷ ws) = not (eqb (parent_of v) (parent_of w) && eqb (name_of v) (name_of w)) && unlike w ws

-- the rows from i on: each stands in a row before it, bears another name than the document, and no later row in the same row bears its name
unfoldable pub later_well_made : ℕ → List ℕ → Bool
later_well_made i [] = true
later_well_made i (w ∷ ws) = ltb (parent_of w) i && not (eqb (name_of w) 255) && unlike w ws && later_well_made (i + 1) ws

-- row 0, the document, stands in no row and does not come again, and its name is 255
unfoldable pub well_made : List ℕ → Bool
well_made [] = false
well_made (w ∷ ws) = leb (length (w ∷ ws)) (parent_of w) && not (repeated w) && eqb (name_of w) 255 && later_well_made 1 ws
