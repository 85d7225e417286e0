-- Laws of the text of a whole number.
--     last-in, on_in, last, on   its two cases: one digit, or the text of a tenth and one digit more
--     by-tens       what holds of a digit, and of n where it holds of a tenth of n, holds of every number
--     whole-in-few, whole-some, whole-few   no more digits than are allowed; there is one, and below 10^k there are no more than k
-- Assumes nothing.
use Prim.Native.Nat.{ℕ, zero, suc, ◌+◌, ◌/◌, ◌%◌, ◌^◌, ◌≤◌, ◌<◌}
use mathlib.Core.Path.{◌≡◌, refl, sym, ap, ◌∙◌}
use mathlib.Core.List.{List, [], ◌∷◌, ◌++◌}
use mathlib.Core.Logic.{⊎_elim}
use native.Mathlib.Nat.{pow-suc}
use native.Mathlib.Omega.{arith}
use lib.ListN.{length, length-append}
use borrow.Author.Tests.{lt-ltb, le-ltb}
use Rattle.lists.proofs.Cases.{ltb-cases}
use Rattle.wholes.specs.Whole.{numeral, whole_in, whole_text}

pub last-in : (k n : ℕ) → n < 10 → whole_in k n ≡ numeral n ∷ []
unfolding whole_in
last-in zero n h = refl
last-in (suc k) n h = simp (lt-ltb n 10 h)

pub on_in : (k n : ℕ) → 10 ≤ n → whole_in (suc k) n ≡ whole_in k (n / 10) ++ numeral (n % 10) ∷ []
unfolding whole_in
on_in k n h = simp (le-ltb n 10 h)

-- digits that are allowed and not needed make no difference
enough : (j k n : ℕ) → n ≤ j → n ≤ k → whole_in j n ≡ whole_in k n
enough zero k n g h = last-in 0 n (omega arith) ∙ sym (last-in k n (omega arith))
enough (suc j) zero n g h = last-in (suc j) n (omega arith) ∙ sym (last-in 0 n (omega arith))
enough (suc j) (suc k) n g h =
    ⊎_elim
    (λ y. last-in (suc j) n y.0 ∙ sym (last-in (suc k) n y.0))
    (λ y. on_in j n y.0 ∙ ap (λ (l : List ℕ). l ++ numeral (n % 10) ∷ []) (enough j k (n / 10) (omega (arith, y.0)) (omega (arith, y.0))) ∙ sym (on_in k n y.0))
    (ltb-cases n 10)

pub last : (n : ℕ) → n < 10 → whole_text n ≡ numeral n ∷ []
last n = last-in n n

pub on : (n : ℕ) → 10 ≤ n → whole_text n ≡ whole_text (n / 10) ++ numeral (n % 10) ∷ []
on zero h = absurd (omega arith)
on (suc k) h = on_in k (suc k) h ∙ ap (λ (l : List ℕ). l ++ numeral (suc k % 10) ∷ []) (enough k (suc k / 10) (suc k / 10) (omega arith) (omega arith))

module _ (P : ℕ → Type 0) (one : (n : ℕ) → n < 10 → P n) (more : (n : ℕ) → 10 ≤ n → P (n / 10) → P n) where
  pub by-tens : (n : ℕ) → P n
  by-tens n = go n n (omega arith)
    where
      go : (k m : ℕ) → m ≤ k → P m
      go zero m h = one m (omega arith)
      go (suc k) m h = ⊎_elim (λ y. one m y.0) (λ y. more m y.0 (go k (m / 10) (omega (arith, y.0)))) (ltb-cases m 10)

pub whole-in-few : (k n : ℕ) → length (whole_in k n) ≤ suc k
unfolding whole_in
whole-in-few zero n = omega arith
whole-in-few (suc k) n =
    ⊎_elim
    (λ y. let e = ap length (last-in (suc k) n y.0) in omega (arith, e))
    (λ y. let e = ap length (on_in k n y.0) in omega (arith, e, length-append (whole_in k (n / 10)) (numeral (n % 10) ∷ []), whole-in-few k (n / 10)))
    (ltb-cases n 10)

pub whole-longer : (n : ℕ) → 10 ≤ n → length (whole_text n) ≡ length (whole_text (n / 10)) + 1
whole-longer n h = ap length (on n h) ∙ length-append (whole_text (n / 10)) (numeral (n % 10) ∷ [])

pub whole-some : (n : ℕ) → 1 ≤ length (whole_text n)
whole-some n =
    ⊎_elim (λ y. let e = ap length (last n y.0) in omega (arith, e)) (λ y. omega (arith, whole-longer n y.0)) (ltb-cases n 10)

pub whole-few : (k n : ℕ) → n < 10 ^ suc k → length (whole_text n) ≤ suc k
whole-few zero n h = let e = ap length (last n (omega arith)) in omega (arith, e)
whole-few (suc k) n h =
    ⊎_elim
    (λ y. let e = ap length (last n y.0) in omega (arith, e))
    (λ y. omega (arith, whole-longer n y.0, whole-few k (n / 10) (omega (arith, pow-suc 10 (suc k)))))
    (ltb-cases n 10)
