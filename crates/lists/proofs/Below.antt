-- A test that is computed at every number below a bound. Assumes nothing.
use Prim.Native.Nat.{ℕ, zero, suc, ◌<◌}
use mathlib.Core.Path.{◌≡◌, refl}
use mathlib.Core.Bool.{Bool, true, false, ◌&&◌, and-eq-true_iff}
use native.Mathlib.Omega.{arith}
use lib.Dec.{eqb}
use borrow.Author.Tests.{eqb-true, eqb-false}

-- the test passes at every number below n
abbrev pub every : (ℕ → Bool) → ℕ → Bool
every f zero = true
every f (suc n) = f n && every f n

pub below : (f : ℕ → Bool) (n : ℕ) → every f n ≡ true → (k : ℕ) → k < n → f k ≡ true
below f zero t k h = absurd (omega arith)
below f (suc n) t k h =
    let b = (and-eq-true_iff (f n) (every f n)).0 t in
    here (eqb k n) refl b.0 (λ l. below f n b.1 k l)
  where
    here : (e : Bool) → eqb k n ≡ e → f n ≡ true → (k < n → f k ≡ true) → f k ≡ true
    here true q p r = rw (eqb-true k n q) p
    here false q p r = r (let d = eqb-false k n q in omega (arith, d, h))
