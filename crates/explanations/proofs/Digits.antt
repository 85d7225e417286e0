-- The loop that spells a number, lowest digit first.
-- Assumes nothing.
use mathlib.Core.Path.{◌≡◌, refl, sym, ap, ◌∙◌}
use mathlib.Core.List.{List, [], ◌∷◌, ◌++◌, append_assoc, append-nil}
use Prim.Native.Nat.{ℕ, zero, suc, ◌+◌, ◌-◌, ◌*◌, ◌/◌, ◌%◌, ◌^◌, ◌≤◌, ◌<◌}
use native.Mathlib.Nat.{pow-succ'}
use native.Mathlib.Omega.{arith}
use lib.ListN.{length, take, drop, set, length-set}
use lib.Seq.{drop-cons, lt-length-set, get_or-set_same, drop-set-lt}
use Rattle.lists.specs.Zeros.{zeros}
use Rattle.lists.proofs.Loans.{rest_part}
use Rattle.wholes.specs.Whole.{whole_in}
use Rattle.wholes.proofs.Wholes.{last-in, on_in}
use Rattle.explanations.specs.Decimal.{decimal}

-- the digits after i are spelt, and `rest` is what stands before them
pub record Spelt (n : ℕ) (digits : List ℕ) (i rest : ℕ) : Type 0 where
  pub ten : length digits ≡ 10
  pub most : i ≤ 9
  pub small : rest < 10 ^ suc i
  pub all : whole_in i rest ++ drop (suc i) digits ≡ decimal n

pub spelt-start : (n : ℕ) → n < 10 ^ 10 → Spelt n (zeros 10) 9 n
spelt-start n h = record { ten = refl; most = omega arith; small = h; all = append-nil (decimal n) }

put-drop : (l : List ℕ) (i v : ℕ) → i < length l → drop i (set l i v) ≡ v ∷ drop (suc i) l
put-drop l i v h =
    drop-cons (set l i v) i 0 (lt-length-set l i v h)
    ∙ ap (λ (x : ℕ). x ∷ drop (suc i) (set l i v)) (get_or-set_same l i v 0 h)
    ∙ ap (λ (t : List ℕ). v ∷ t) (drop-set-lt (suc i) l i v (omega arith))

module _ (n : ℕ) (digits : List ℕ) where
  pub spelt-first : (i rest : ℕ) → Spelt n digits i rest → 10 ≤ rest → 1 ≤ i
  spelt-first zero rest s h = let z = s.small in absurd (omega arith)
  spelt-first (suc k) rest s h = omega arith

  pub spelt-next : (i rest : ℕ) → Spelt n digits i rest → 10 ≤ rest → Spelt n (set digits i (48 + rest % 10)) (i - 1) (rest / 10)
  spelt-next zero rest s h = let z = s.small in absurd (omega arith)
  spelt-next (suc k) rest s h =
      let l : suc k < length digits = omega (arith, s.ten, s.most) in
      let v = 48 + rest % 10 in
      let p : 10 ^ suc (suc k) ≡ 10 * 10 ^ suc k = pow-succ' 10 (suc k) in
      let z = s.small in
      let e : suc k - 1 ≡ k = omega arith in
      rw e
      (record {
        ten = length-set digits (suc k) v ∙ s.ten;
        most = omega (arith, s.most);
        small = omega arith;
        all = ap (λ (t : List ℕ). whole_in k (rest / 10) ++ t) (put-drop digits (suc k) v l)
            ∙ sym (append_assoc (whole_in k (rest / 10)) (v ∷ []) (drop (suc (suc k)) digits))
            ∙ sym (ap (λ (t : List ℕ). t ++ drop (suc (suc k)) digits) (on_in k rest h))
            ∙ s.all;
      })

  spelt-end : (i rest : ℕ) → Spelt n digits i rest → rest < 10 → drop i (set digits i (48 + rest)) ≡ decimal n
  spelt-end i rest s h =
      put-drop digits i (48 + rest) (omega (arith, s.ten, s.most))
      ∙ sym (ap (λ (t : List ℕ). t ++ drop (suc i) digits) (last-in i rest h)) ∙ s.all

  -- `&digits[i..]`
  pub spelt-part : (i rest : ℕ) → Spelt n digits i rest → rest < 10 → take (10 - i) (drop i (set digits i (48 + rest))) ≡ decimal n
  spelt-part i rest s h =
      let d = set digits i (48 + rest) in
      let e : 10 ≡ length d = sym (length-set digits i (48 + rest) ∙ s.ten) in
      ap (λ (k : ℕ). take (k - i) (drop i d)) e ∙ rest_part i d ∙ spelt-end i rest s h
