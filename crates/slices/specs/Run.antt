-- A run of bytes at the front of a list.
use Rattle.std.specs.Prelude.{ℕ, suc, List, [], ◌∷◌, Bool, cond}

-- the length of the longest run of bytes at the front that pass the test
unfoldable pub run : (ℕ → Bool) → List ℕ → ℕ
run p [] = 0
run p (b ∷ t) = cond (p b) (suc (run p t)) 0
