-- Names of n letters in a row, as the code holds them: each with the two digits of its number after it, and a space before the next.
-- Public contracts do not cite this.
use Rattle.std.specs.Prelude.{ℕ, ◌+◌, ◌*◌, ◌%◌, List, cond, leb, length, take}
use Rattle.slices.specs.Bytes.{byte}
use Rattle.slices.specs.Same.{same}
use Rattle.slices.specs.Walk.{WalkStep, go, stop, walk}

-- the number of the entry at the front of l where its letters are the name, else `other`
unfoldable pub picked : ℕ → List ℕ → ℕ → List ℕ → ℕ
picked n name other l = cond (same (take n l) name) (byte l n % 16 * 10 + byte l (n + 1) % 16) other

unfoldable pub entry : ℕ → List ℕ → ℕ → List ℕ → WalkStep ℕ ℕ
entry n name k l = cond (leb (n + 2) (length l)) (go (n + 3) (picked n name k l)) (stop k)

-- the number of the last entry whose letters are the name, 0 where none is
unfoldable pub told_in : ℕ → List ℕ → List ℕ → ℕ
told_in n name row = walk (λ (l : List ℕ). l) (entry n name) (λ (k : ℕ). k) 0 0 row
