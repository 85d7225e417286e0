-- The contract of `has_twice` leaves one possible answer. Assumes nothing.
use mathlib.Core.Path.{◌≡◌}
use mathlib.Core.List.{List}
use mathlib.Core.Bool.{Bool}
use Prim.Native.Nat.{ℕ}
use Rattle.tags.specs.Tail.{ends, twice_in}
use Rattle.lists.proofs.Unique.{one}

pub has-twice-one : (s : List ℕ) (from : ℕ) {r r' : Bool} → r ≡ twice_in (ends s from) → r' ≡ twice_in (ends s from) → r ≡ r'
has-twice-one s from = one
