-- Two outcomes that a contract permits are equal: the answer, and what the lent buffer holds at exit.
-- Assumes nothing.
use Prim.Native.Nat.{ℕ, min}
use mathlib.Core.Path.{◌≡◌}
use mathlib.Core.List.{List}
use lib.ListN.{length}
use lib.Seq.{sets}
use Rattle.lists.proofs.Unique.{both}
use Rattle.explanations.specs.Explanation.{explanation}

pub put-explanation-one : (line out : List ℕ) {r r' : ℕ} {b b' : List ℕ}
    → (r ≡ min (length (explanation line)) (length out)) × (b ≡ sets out 0 (explanation line))
    → (r' ≡ min (length (explanation line)) (length out)) × (b' ≡ sets out 0 (explanation line)) → (r ≡ r') × (b ≡ b')
put-explanation-one line out = both
