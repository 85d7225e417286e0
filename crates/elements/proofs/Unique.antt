-- Two outcomes that the contract permits are equal.
-- Assumes nothing.
use Prim.Native.Nat.{ℕ}
use mathlib.Core.Path.{◌≡◌}
use mathlib.Core.List.{List}
use Rattle.lists.proofs.Unique.{one}
use Rattle.elements.specs.Names.{element_no}

pub element-no-one : (name : List ℕ) {r r' : ℕ} → r ≡ element_no name → r' ≡ element_no name → r ≡ r'
element-no-one name = one
