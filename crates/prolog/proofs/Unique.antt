-- Two outcomes that a contract permits are equal.
-- Assumes nothing.
use Prim.Native.Nat.{ℕ}
use mathlib.Core.Path.{◌≡◌}
use mathlib.Core.List.{List}
use Rattle.std.specs.Prelude.{Result}
use Rattle.lists.proofs.Unique.{one}
use Rattle.prolog.specs.Prolog.{begin}

pub first-item-one : (doc : List ℕ) {r r' : Result ℕ ℕ} → r ≡ begin doc → r' ≡ begin doc → r ≡ r'
first-item-one doc = one
