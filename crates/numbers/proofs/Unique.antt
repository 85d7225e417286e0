-- Two outcomes that a contract permits are equal. Assumes nothing.
use Prim.Native.Nat.{ℕ}
use mathlib.Core.Path.{◌≡◌}
use mathlib.Core.List.{List}
use Rattle.characters.specs.Says.{says}
use Rattle.numbers.specs.Number.{number_of}
use Rattle.numbers.specs.Amount.{amount_of}
use Rattle.std.specs.Prelude.{Option, ℤ}
use Rattle.lists.proofs.Unique.{one}

pub number-of-one : (v : List ℕ) (most : ℕ) {r r' : Option ℕ} → r ≡ number_of (says v) most → r' ≡ number_of (says v) most → r ≡ r'
number-of-one v most = one

pub amount-of-one : (v : List ℕ) {r r' : Option ℤ} → r ≡ amount_of (says v) → r' ≡ amount_of (says v) → r ≡ r'
amount-of-one v = one
