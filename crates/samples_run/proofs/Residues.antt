-- The residue of a number that is not negative. Assumes nothing.
use Prim.Native.Nat.{ℕ, ◌%◌}
use mathlib.Core.Path.{◌≡◌, refl}
use mathlib.Core.Bool.{true}
use native.Mathlib.Omega.{arith}
use lib.IntN.{ℤ, pos, negsuc, nat_abs}
use lib.Signed.{le_z}
use Rattle.samples_run.specs.Sums.{residue_of}

pub residue-from : (a : ℤ) → le_z (pos 0) a ≡ true → nat_abs a % 4294967296 ≡ residue_of a
unfolding residue_of
residue-from (pos k) e = refl
residue-from (negsuc k) e = let z : ◌≡◌ {A = ℕ} 0 1 = cc in absurd (omega arith)
