-- Two lists of bytes that are the same.
use Rattle.std.specs.Prelude.{ℕ, ◌+◌, List, [], ◌∷◌, Bool, true, false, cond, length, take, eqb}
use Rattle.slices.specs.Walk.{WalkStep, go, stop, walk}

unfoldable pub same : List ℕ → List ℕ → Bool
same [] [] = true
same [] (b ∷ y) = false
same (a ∷ x) [] = false
same (a ∷ x) (b ∷ y) = cond (eqb a b) (same x y) false

-- s begins with t
unfoldable pub begins : List ℕ → List ℕ → Bool
begins t s = same t (take (length t) s)

-- a search: where it is found, and one byte on where it is not
unfoldable pub seek : ℕ → Bool → WalkStep ℕ ℕ
seek at t = cond t (stop at) (go 1 (at + 1))

unfoldable pub here : ℕ → ℕ
here at = at

-- where t first stands in s, or the length of s
unfoldable pub first_at : List ℕ → List ℕ → ℕ
first_at t s = walk (begins t) seek here 0 0 s
