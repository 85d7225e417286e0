-- An amount that is not too large, and 10^15 more. Assumes nothing.
use Prim.Native.Nat.{ℕ, zero, suc, ◌+◌, ◌-◌, ◌*◌, ◌≤◌, ◌<◌}
use mathlib.Core.Path.{◌≡◌, refl, sym, ap, ◌∙◌}
use mathlib.Core.Bool.{true, false, cond}
use mathlib.Core.Logic.{⊎_elim}
use native.Mathlib.Omega.{arith}
use borrow.Author.Tests.{le-leb, lt-leb, le-ltb, lt-ltb, ltb-true}
use lib.Dec.{leb, ltb}
use lib.IntN.{ℤ, pos, negsuc, nat_abs}
use lib.Signed.{le_z}
use mir.Syntax.{w64}
use mir.Val.{Fits, SFits}
use Rattle.lists.proofs.Cases.{ltb-cases, never}
use Rattle.totals.specs.Rules.{too_large, size_allowed}
use Rattle.totals.specs.Totals.{values_from, added}
use Rattle.totals.specs.Shifted.{shifted_of, added_from}
use Rattle.totals.proofs.Integers.{Less, less-add, less_zero}

-- what the code makes of an amount that is 0 or more
pub from-shifted : (a : ℤ) → SFits w64 a → le_z (pos 0) a ≡ true → Fits w64 (too_large + nat_abs a) × (too_large + nat_abs a ≡ shifted_of a)
unfolding shifted_of
from-shifted (pos n) f e = let h = f.sfits in (record { fits = omega arith }, refl)
from-shifted (negsuc n) f e = never e

-- the size is told by the shifted amount
pub size-shifted : (a : ℤ) → size_allowed a ≡ cond (leb 1 (shifted_of a)) (ltb (shifted_of a) (2 * too_large)) false
unfolding size_allowed shifted_of
size-shifted (pos n) =
    rw (le-leb 1 (too_large + n) (omega arith))
    (⊎_elim
    (λ y. y.1 ∙ sym (lt-ltb (too_large + n) (2 * too_large) (omega (arith, y.0))))
    (λ y. y.1 ∙ sym (le-ltb (too_large + n) (2 * too_large) (omega (arith, y.0))))
    (ltb-cases n too_large))
size-shifted (negsuc n) =
    ⊎_elim
    (λ y. rw (le-leb 1 (too_large - suc n) (omega (arith, y.0)), lt-ltb (too_large - suc n) (2 * too_large) (omega (arith, y.0))) y.1)
    (λ y. rw (lt-leb 1 (too_large - suc n) (omega (arith, y.0))) y.1)
    (ltb-cases (suc n) too_large)

pub shifted-less : (a : ℤ) → size_allowed a ≡ true → Less a (shifted_of a) too_large × (shifted_of a < 2 * too_large)
unfolding size_allowed shifted_of
shifted-less (pos n) e = let h = ltb-true n too_large e in (record { is = ap pos (omega arith) }, omega arith)
shifted-less (negsuc n) e = let h = ltb-true (suc n) too_large e in (record { is = rw (le-ltb too_large (suc n) (omega arith)) }, omega arith)

-- the sum of integers that are each 10^15 less
module _ (f : ℕ → ℤ) (g : ℕ → ℕ) (each : (k : ℕ) → Less (f k) (g k) too_large × (g k < 2 * too_large)) where
  pub added-less : (i n : ℕ) → Less (added (values_from f i n)) (added_from g i n) (too_large * n)
  unfolding added values_from added_from
  added-less i zero = less_zero
  added-less i (suc n) =
      let e : too_large + too_large * n ≡ too_large * suc n = omega arith in
      rw e at (less-add (each i).0 (added-less (suc i) n))

  pub added-most : (i n : ℕ) → added_from g i n ≤ 2 * too_large * n
  unfolding added_from
  added-most i zero = omega arith
  added-most i (suc n) = omega (arith, (each i).1, added-most (suc i) n)
