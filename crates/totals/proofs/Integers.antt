-- Integers as the difference of two numbers: how a sum of shifted amounts tells the sum of the amounts, and its whole number and rest. Assumes nothing.
use Prim.Native.Nat.{ℕ, zero, suc, ◌+◌, ◌-◌, ◌*◌, ◌/◌, ◌%◌, ◌≤◌, ◌<◌}
use mathlib.Core.Path.{◌≡◌, refl, sym, ap, ◌∙◌}
use mathlib.Core.Logic.{⊎_elim}
use native.Mathlib.Omega.{arith}
use native.Mathlib.Nat.{div-add-mod', mod-lt}
use borrow.Author.Tests.{lt-ltb, le-ltb}
use lib.IntN.{ℤ, pos, negsuc, sub_ℕ, ◌+ℤ◌, ◌-ℤ◌, +ℤ_assoc, +ℤ_comm, +ℤ-neg_ℤ_cancel}
use Rattle.lists.proofs.Cases.{ltb-cases}
use Rattle.totals.specs.Totals.{whole_of, rest_of}

four : (a b c d : ℤ) → (a +ℤ b) +ℤ (c +ℤ d) ≡ (a +ℤ c) +ℤ (b +ℤ d)
four a b c d =
    +ℤ_assoc a b (c +ℤ d)
    ∙ ap (λ (z : ℤ). a +ℤ z) (sym (+ℤ_assoc b c d) ∙ ap (λ (z : ℤ). z +ℤ d) (+ℤ_comm b c) ∙ +ℤ_assoc c b d)
    ∙ sym (+ℤ_assoc a c (b +ℤ d))

pub below-is : (n : ℕ) → negsuc 0 -ℤ pos n ≡ negsuc n
below-is zero = refl
below-is (suc n) = ap negsuc (omega arith)

-- z is x less m
pub record Less (z : ℤ) (x m : ℕ) : Type 0 where
  pub is : z +ℤ pos m ≡ pos x

pub less-add : {z y : ℤ} {x m w n : ℕ} → Less z x m → Less y w n → Less (z +ℤ y) (x + w) (m + n)
less-add {z} {y} {x} {m} {w} {n} p q = record { is = four z y (pos m) (pos n) ∙ ap (λ (k : ℤ). k +ℤ (y +ℤ pos n)) p.is ∙ ap (λ (k : ℤ). pos x +ℤ k) q.is }

pub less_zero : Less (pos 0) 0 0
less_zero = record { is = refl }

minus : (x m : ℕ) → pos x -ℤ pos m ≡ sub_ℕ x m
minus x zero = ⊎_elim (λ y. absurd (omega (arith, y.0))) (λ y. rw y.1 (ap pos (omega arith))) (ltb-cases x 0)
minus x (suc m) = refl

pub less-is : {z : ℤ} {x m : ℕ} → Less z x m → z ≡ sub_ℕ x m
less-is {z} {x} {m} p = sym (+ℤ-neg_ℤ_cancel z (pos m)) ∙ ap (λ (k : ℤ). k -ℤ pos m) p.is ∙ minus x m

-- n is q times 1000 and r more
div_is : (n q r : ℕ) → n ≡ 1000 * q + r → r < 1000 → (n / 1000 ≡ q) × (n % 1000 ≡ r)
div_is n q r e h =
    let d = div-add-mod' n 1000 in
    let m = mod-lt n {m = 1000} (omega arith) in
    (omega (arith, d, m, e, h), omega (arith, d, m, e, h))

-- a whole number of thousands taken away leaves the rest as it was: this is why the rest is floored and not cut off
pub told : (x a r m : ℕ) → x ≡ 1000 * a + r → r < 1000 → (whole_of (sub_ℕ x (1000 * m)) ≡ sub_ℕ a m) × (rest_of (sub_ℕ x (1000 * m)) ≡ r)
unfolding whole_of rest_of
told x a r m e h =
    ⊎_elim
    (λ y.
    let l : a < m = omega (arith, y.0) in
    let d = div_is (1000 * m - suc x) (m - suc a) (999 - r) (omega (arith, y.0)) (omega arith) in
    rw y.1 (rw (lt-ltb a m l) (ap negsuc d.0), omega (arith, d.1)))
    (λ y.
    let l : m ≤ a = omega (arith, y.0) in
    let d = div_is (x - 1000 * m) (a - m) r (omega (arith, y.0)) h in
    rw y.1 (rw (le-ltb a m l) (ap pos d.0), d.1))
    (ltb-cases x (1000 * m))
