-- The name `v`, told by its length and its one byte. Assumes nothing.
use Prim.Native.Nat.{ℕ}
use mathlib.Core.Path.{◌≡◌, refl}
use mathlib.Core.List.{List, [], ◌∷◌}
use mathlib.Core.Bool.{Bool, true, false, cond}
use native.Mathlib.Omega.{arith}
use lib.ListN.{length, get_or}
use lib.Dec.{eqb}
use Rattle.slices.specs.Same.{same}
use Rattle.slices.specs.Text.{text}

itself : (t : Bool) → t ≡ cond t true false
itself true = refl
itself false = refl

pub one_byte : (n : List ℕ) → length n ≡ 1 → eqb (get_or n 0 0) 0x76 ≡ same n (text "v")
unfolding same
one_byte [] e = absurd (omega arith)
one_byte (x ∷ []) e = itself (eqb x 0x76)
one_byte (x ∷ (y ∷ n)) e = absurd (omega arith)
