-- An amount has less than 10^15 thousandths in size: "1 to 12 digits, optionally a point with 1 to 3 digits". Assumes nothing.
use Prim.Native.Nat.{ℕ, zero, suc, ◌+◌, ◌-◌, ◌*◌, ◌^◌, ◌≤◌, ◌<◌}
use mathlib.Core.Path.{◌≡◌, refl, sym, ap, ◌∙◌}
use mathlib.Core.List.{List, [], ◌∷◌, ◌++◌}
use mathlib.Core.Bool.{Bool, true, false, cond}
use mathlib.Core.Logic.{⊎_elim}
use native.Mathlib.Omega.{arith}
use native.Mathlib.Nat.{pow-suc, pow-le-pow_right, mul-le-mul, mul-le-mul_right, mul_assoc, mul_comm}
use borrow.Author.Tests.{lt-ltb}
use lib.Dec.{lit<}
use lib.IntN.{ℤ, pos, neg_ℤ, nat_abs}
use lib.ListN.{length, take, drop, length-take}
use Rattle.lists.proofs.Cases.{bool_cases, by_cond}
use Rattle.slices.specs.Text.{text}
use Rattle.characters.specs.References.{digit}
use Rattle.numbers.specs.Digits.{digits, number_from}
use Rattle.numbers.specs.Amount.{filled, thousandths, signed, written_amount, unsigned, minus, amount_of}
use Rattle.std.specs.Prelude.{Option}
use Rattle.numbers.proofs.Reading.{digit-range}
use Rattle.reader.specs.Rows.{thousandths_of}
use Rattle.totals.specs.Rules.{too_large, size_allowed}
use Rattle.contents.specs.Said.{TagSaid}
use Rattle.contents.specs.Shown.{amount_in}

-- characters that are none after `9`
unfoldable Low : List ℕ → Type 0
Low [] = Unit {0}
Low (c ∷ l) = (c ≤ 57) × Low l

low-join : (a b : List ℕ) → Low a → Low b → Low (a ++ b)
unfolding Low
low-join [] b x y = y
low-join (c ∷ a) b x y = (x.0, low-join a b x.1 y)

low-take : (n : ℕ) (l : List ℕ) → Low l → Low (take n l)
unfolding Low
low-take zero l h = tt
low-take (suc n) [] h = tt
low-take (suc n) (c ∷ l) h = (h.0, low-take n l h.1)

low-digits : (k : ℕ) (l : List ℕ) → Low (take (digits k l) l)
unfolding Low digits
low-digits zero l = tt
low-digits (suc k) [] = tt
low-digits (suc k) (c ∷ l) = ⊎_elim (λ y. rw y ((digit-range c y).1, low-digits k l)) (λ y. rw y tt) (bool_cases (digit c))

few-digits : (k : ℕ) (l : List ℕ) → digits k l ≤ k
unfolding digits
few-digits zero l = omega arith
few-digits (suc k) [] = omega arith
few-digits (suc k) (c ∷ l) = ⊎_elim (λ y. rw y (let h = few-digits k l in omega (arith, h))) (λ y. rw y (omega arith)) (bool_cases (digit c))

number_small : (l : List ℕ) (n : ℕ) → Low l → number_from n l < (n + 1) * 10 ^ length l
unfolding Low number_from
number_small [] n h = omega arith
number_small (c ∷ l) n h =
    let k = 10 ^ length l in
    let r = number_small l (n * 10 + (c - 48)) h.1 in
    let m : (n * 10 + (c - 48) + 1) * k ≤ (n + 1) * 10 * k = mul-le-mul_right k (omega (arith, h.0)) in
    let e : (n + 1) * 10 * k ≡ (n + 1) * 10 ^ suc (length l) =
    mul_assoc (n + 1) 10 k ∙ ap (λ (x : ℕ). (n + 1) * x) (mul_comm 10 k ∙ sym (pow-suc 10 (length l))) in
    omega (arith, r, m, e)

-- at most m of them
number-below : (l : List ℕ) (n m : ℕ) → Low l → length l ≤ m → number_from n l < (n + 1) * 10 ^ m
number-below l n m h e =
    let r = number_small l n h in
    let p : 10 ^ length l ≤ 10 ^ m = pow-le-pow_right (lit< tt) e in
    let q : (n + 1) * 10 ^ length l ≤ (n + 1) * 10 ^ m = mul-le-mul {n₁ = n + 1} (omega arith) p in
    omega (arith, r, q)

thousandths-small : (l : List ℕ) → thousandths l < too_large
unfolding thousandths filled Low
thousandths-small l =
    let a = take (digits 12 l) l in
    let t = drop 1 (drop (digits 12 l) l) in
    let b = take (digits 3 t) t ++ text "000" in
    let f = take 3 b in
    let u = number-below a 0 12 (low-digits 12 l) (let h = few-digits 12 l in omega (arith, length-take (digits 12 l) l, h)) in
    let zs : Low (text "000") = (omega arith, (omega arith, (omega arith, tt))) in
    let v = number-below f (number_from 0 a) 3 (low-take 3 b (low-join (take (digits 3 t) t) (text "000") (low-digits 3 t) zs)) (omega (arith, length-take 3 b)) in
    omega (arith, u, v)

abs-negated : (n : ℕ) → nat_abs (neg_ℤ (pos n)) ≡ n
abs-negated zero = refl
abs-negated (suc n) = refl

signed-size : (m : Bool) (n : ℕ) → nat_abs (signed m n) ≡ n
unfolding signed
signed-size true n = abs-negated n
signed-size false n = refl

of-amount : (l : List ℕ) → nat_abs (thousandths_of (amount_of l)) < too_large
unfolding amount_of thousandths_of
of-amount l =
    by_cond (λ (a : Option ℤ). nat_abs (thousandths_of a) < too_large) (written_amount l)
    (let h = thousandths-small (unsigned l) in let e = signed-size (minus l) (thousandths (unsigned l)) in omega (arith, h, e))
    (let z : 0 < too_large = omega arith in z)

pub size_ok : (s : TagSaid) → size_allowed (amount_in s) ≡ true
unfolding size_allowed amount_in
size_ok s = lt-ltb _ too_large (of-amount _)
