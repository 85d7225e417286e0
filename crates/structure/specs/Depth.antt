-- How many elements are open at a place in a document, which is the last row that was started, and whether that is still open.
use Rattle.std.specs.Prelude.{ℕ, zero, suc, List, Bool, cond, get_or, eqb}
use Rattle.structure.specs.Rows.{parent_of}

-- row r, the row in which it stands, and so on, up to row 0, the document as a whole, which is no element: at most k of them
unfoldable pub height_in : ℕ → List ℕ → ℕ → ℕ
height_in zero t r = 0
height_in (suc k) t r = let more = suc (height_in k t (parent_of (get_or t r 0))) in cond (eqb r 0) 0 more

-- the innermost open element is row r where that is open, else the row in which it stands; no table of a kind has more than 16 rows one in another
unfoldable pub depth_of : List ℕ → ℕ → Bool → ℕ
depth_of t r o = cond o (height_in 16 t r) (height_in 16 t (parent_of (get_or t r 0)))
