-- A document kind is a list of rows, in the order of its structure table: "element order, how often each may come".
-- Each row is a number of columns; those read here: the number of the element's name, the row that it stands in (row 0 stands in none),
-- whether it has to come, whether it may come again. Row 0 is the document as a whole, and bears a name that no element has.
-- A place in a document is the last row that was started, and whether that is still open.
use Rattle.std.specs.Prelude.{ℕ, ◌+◌, ◌/◌, ◌%◌, List, [], ◌∷◌, Bool, true, false, cond, length, drop, get_or, eqb, ltb, Option, Some, None}

unfoldable pub name_of : ℕ → ℕ
name_of w = w % 256

unfoldable pub parent_of : ℕ → ℕ
parent_of w = w / 256 % 256

unfoldable pub required : ℕ → Bool
required w = eqb (w / 65536 % 2) 1

unfoldable pub repeated : ℕ → Bool
repeated w = eqb (w / 131072 % 2) 1

-- of the rows from i on that stand in p: the first that bears the name x, if no row that has to come stands before it
unfoldable pub next_in : List ℕ → ℕ → ℕ → ℕ → Option ℕ
next_in [] i p x = None
next_in (w ∷ ws) i p x =
    let rest = next_in ws (i + 1) p x in
    cond (eqb (parent_of w) p) (cond (eqb (name_of w) x) (Some i) (cond (required w) None rest)) rest

-- of these rows none stands in p and has to come: p may end
unfoldable pub ends_in : List ℕ → ℕ → Bool
ends_in [] p = true
ends_in (w ∷ ws) p = let rest = ends_in ws p in cond (eqb (parent_of w) p) (cond (required w) false rest) rest

-- the row that a start tag x takes after row r: where r is open, one of those that stand in it; where it is closed, r again if it may come again,
-- else one of those after it that stand where it stands
unfoldable pub start_of : List ℕ → ℕ → Bool → ℕ → Option ℕ
start_of t r o x =
    cond (ltb r (length t))
    (cond o
    (next_in (drop (r + 1) t) (r + 1) r x)
    (cond (repeated (get_or t r 0))
    (cond (eqb (name_of (get_or t r 0)) x) (Some r) (next_in (drop (r + 1) t) (r + 1) (parent_of (get_or t r 0)) x))
    (next_in (drop (r + 1) t) (r + 1) (parent_of (get_or t r 0)) x)))
    None

-- row p, if it bears the name x and no row after r that has to come stands in it
unfoldable pub end_at : List ℕ → ℕ → ℕ → ℕ → Option ℕ
end_at t r p x =
    cond (ltb p (length t)) (cond (eqb (name_of (get_or t p 0)) x) (cond (ends_in (drop (r + 1) t) p) (Some p) None) None) None

-- the row that an end tag x closes after row r: r itself where it is open, else the row in which r stands
unfoldable pub end_of : List ℕ → ℕ → Bool → ℕ → Option ℕ
end_of t r o x = cond (ltb r (length t)) (cond o (end_at t r r x) (end_at t r (parent_of (get_or t r 0)) x)) None

-- "An empty tag is a start and an end in one item": it may be one where no row has to come in it
unfoldable pub ends_at_once : List ℕ → ℕ → Bool
ends_at_once t r = ends_in (drop (r + 1) t) r

-- it is row 0 that would be closed
unfoldable pub closes_document : Option ℕ → Bool
closes_document (Some p) = eqb p 0
closes_document None = false

-- the document may be over here; where not, it is "document over too early"
unfoldable pub over_of : List ℕ → ℕ → Bool → Bool
over_of t r o = closes_document (end_of t r o 255)
