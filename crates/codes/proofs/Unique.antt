-- Two outcomes that a contract permits are equal. Assumes nothing.
use Prim.Native.Nat.{ℕ}
use mathlib.Core.Path.{◌≡◌}
use mathlib.Core.List.{List}
use mathlib.Core.Bool.{Bool}
use Rattle.characters.specs.Says.{says}
use Rattle.codes.specs.Lists.{codes_of, listed}
use Rattle.lists.proofs.Unique.{one}

pub is-listed-one : (k : ℕ) (v : List ℕ) {r r' : Bool} → r ≡ listed (codes_of k) (says v) → r' ≡ listed (codes_of k) (says v) → r ≡ r'
is-listed-one k v = one
