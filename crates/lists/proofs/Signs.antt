-- A signed number is 0 or more, or -1 less its size; either way the size fits.
-- Assumes nothing.
use Prim.Native.Nat.{ℕ, suc, ◌^◌, ◌<◌}
use mathlib.Core.Path.{◌≡◌, refl, ap}
use mathlib.Core.Bool.{true, false}
use native.Mathlib.Omega.{arith}
use lib.Dec.{T}
use lib.IntN.{ℤ, pos, negsuc, nat_abs, ◌+ℤ◌, ◌-ℤ◌}
use lib.Signed.{le_z, non_neg}
use borrow.Author.Tests.{le-ltb, leb-false}
use mir.Syntax.{w64}
use mir.Val.{Fits, SFits, to_z, of_z}
use mir.Facts.{to_z-of_z}
use borrow.Author.Rules.{sfits_of}

pub from_zero : (x : ℤ) → SFits w64 x → le_z (pos 0) x ≡ true → T (non_neg x) × Fits w64 (nat_abs x)
from_zero (pos n) f e = let h = f.sfits in (tt, record { fits = omega arith })
from_zero (negsuc n) f e = let z : ◌≡◌ {A = ℕ} 0 1 = cc in absurd (omega arith)

below : (n : ℕ) → negsuc 0 +ℤ pos (suc n) ≡ pos n
below n = rw (le-ltb (suc n) 1 (omega arith)) (ap pos (omega arith))

pub below-zero : (x : ℤ) → SFits w64 x → le_z (pos 0) x ≡ false → (n : ℕ) × (negsuc 0 -ℤ x ≡ pos n) × (n < 2 ^ 63) × (x ≡ negsuc n)
below-zero (pos n) f e = let h = leb-false 0 n e in absurd (omega arith)
below-zero (negsuc n) f e = (n, below n, f.sfits, refl)

pub back : (n : ℕ) → n < 2 ^ 63 → to_z w64 (of_z w64 (pos n)) ≡ pos n
back n h = let f : SFits w64 (pos n) = sfits_of h in to_z-of_z f
