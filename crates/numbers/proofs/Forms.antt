-- From what the code knows of a value's parts to what the definitions say of the whole. Assumes nothing.
use Prim.Native.Nat.{ℕ, zero, suc, ◌+◌, ◌-◌, ◌*◌, ◌^◌, ◌≤◌, ◌<◌}
use mathlib.Core.Path.{◌≡◌, refl, sym, ap, ◌∙◌}
use mathlib.Core.List.{List, [], ◌∷◌, ◌++◌}
use mathlib.Core.Bool.{Bool, true, false, cond}
use native.Mathlib.Omega.{arith}
use native.Mathlib.Nat.{pow-le-pow_right, mul-one}
use lib.Dec.{lit<}
use lib.IntN.{pos, neg_ℤ, ◌-ℤ◌, +ℤ_idl}
use lib.Signed.{mag}
use lib.ListN.{length, take, drop}
use lib.Seq.{length-take-le}
use borrow.Author.Tests.{eq-eqb, ne_eqb}
use borrow.Author.Rules.{sfits_of}
use mir.Syntax.{w64}
use mir.Val.{SFits, to_z, of_z}
use mir.Facts.{to_z_pos, to_z-of_z}
use Rattle.std.specs.Prelude.{Option, Some, None, is_none}
use Rattle.slices.specs.Text.{text}
use Rattle.characters.specs.Says.{said_use, said_at, says}
use Rattle.characters.proofs.Saying.{says-char, says-over}
use Rattle.characters.specs.References.{digit}
use Rattle.numbers.specs.Digits.{digits, number_from, nothing_left, only_digits}
use Rattle.numbers.specs.Number.{number_form, number_within}
use Rattle.numbers.specs.Amount.{minus, unsigned, fraction_form, unsigned_form, written_amount, filled, thousandths, signed, amount_of}
use Rattle.numbers.specs.Parts.{point_of, fraction_of, unsigned_of, signed_of}
use Rattle.std.specs.Prelude.{Option, Some, None}
use Rattle.numbers.proofs.Reading.{digits-none}

char-of : (w : List ℕ) (c n : ℕ) → 1 ≤ n → said_at w ≡ Some (c, n) → says w ≡ c ∷ says (drop n w)
unfolding said_at
char-of [] c n m p = let z : ◌≡◌ {A = ℕ} 0 1 = cc in absurd (omega arith)
char-of (b ∷ t) c n m p = says-char (b ∷ t) c n (omega arith) p m

-- x is what `said_at` answered of w
module _ (w : List ℕ) {x : Option (ℕ × ℕ)} (e : x ≡ said_at w) where
  pub first-over : x ≡ None → says w ≡ []
  first-over q = says-over w (sym e ∙ q)

  pub first_char : {c n : ℕ} → x ≡ Some (c, n) → 1 ≤ n → says w ≡ c ∷ says (drop n w)
  first_char {c} {n} q m = char-of w c n m (sym e ∙ q)

over_yes : {l : List ℕ} → l ≡ [] → true ≡ nothing_left l
unfolding nothing_left
over_yes e = rw e

over_no : {l t : List ℕ} {c : ℕ} → l ≡ c ∷ t → false ≡ nothing_left l
unfolding nothing_left
over_no e = rw e

pub over-none : (v : List ℕ) {x : Option (ℕ × ℕ)} → x ≡ said_at v → 1 ≤ said_use x → is_none x ≡ nothing_left (says v)
over-none v {x} e m = by x refl m
  where
    by : (y : Option (ℕ × ℕ)) → x ≡ y → 1 ≤ said_use y → is_none y ≡ nothing_left (says v)
    by None q m = over_yes (first-over v e q)
    by (Some (c, n)) q m = over_no (first_char v e q m)

digits_le : (k : ℕ) (l : List ℕ) → (digits k l ≤ k) × (digits k l ≤ length l)
unfolding digits
digits_le zero l = (omega arith, omega arith)
digits_le (suc k) [] = (omega arith, omega arith)
digits_le (suc k) (c ∷ l) =
    let h = digits_le k l in
    elim (digit c) as (λ (b : Bool). (cond b (suc (digits k l)) 0 ≤ suc k) × (cond b (suc (digits k l)) 0 ≤ suc (length l)))
    [ true ↦ (omega arith, omega arith) | false ↦ (omega arith, omega arith) ]

-- k of `digits_of`, and whether anything follows: t is the part from its end on
module _ (most : ℕ) (l : List ℕ) {k : ℕ} (count : k ≡ digits most l) where
  pub only_none : k ≡ 0 → only_digits most l ≡ false
  unfolding only_digits
  only_none z = rw (← count, eq-eqb _ _ z)

  pub only-over : (k ≡ 0 → ⊥) → {t e : List ℕ} → t ≡ e → says e ≡ drop k l → {f : Bool} → f ≡ nothing_left (says t) → only_digits most l ≡ f
  unfolding only_digits
  only-over z {t} {e} cut left {f} over = rw (← count, ne_eqb _ _ z, ← left, ← cut, ← over)

-- zeros that fill three digits up are factors of ten
filled-up : (w : ℕ) (f : List ℕ) → length f ≤ 3 → number_from w (take 3 (f ++ text "000")) ≡ number_from w f * 10 ^ (3 - length f)
unfolding number_from
filled-up w [] h = omega arith
filled-up w (a ∷ []) h = omega arith
filled-up w (a ∷ b ∷ []) h = omega arith
filled-up w (a ∷ b ∷ d ∷ []) h = omega arith
filled-up w (a ∷ b ∷ d ∷ g ∷ f) h = absurd (omega arith)

-- after a point
module _ (l : List ℕ) (whole : ℕ) {k x : ℕ} (count : k ≡ digits 3 l) (value : x ≡ number_from whole (take k l)) where
  pub point-filled : x * 10 ^ (3 - k) ≡ number_from whole (filled l)
  unfolding filled
  point-filled =
      let d = digits_le 3 l in
      let q : length (take k l) ≡ k = length-take-le k l (omega arith) in
      rw (value, ← count) (sym (rw q at (filled-up whole (take k l) (omega arith))))

  pub point-is : {m : ℕ} → only_digits 3 l ≡ true → k ≡ m → Some (x * 10 ^ (3 - m)) ≡ point_of l whole
  unfolding point_of
  point-is o q = rw (o, ← q, point-filled)

  pub point-three : only_digits 3 l ≡ true → k ≡ 3 → Some x ≡ point_of l whole
  point-three o q = rw mul-one at (point-is o q)

pub point-no : (l : List ℕ) (whole : ℕ) → only_digits 3 l ≡ false → None ≡ point_of l whole
unfolding point_of
point-no l whole o = rw o

-- after the digits before the point
pub fraction-over : {l : List ℕ} (whole : ℕ) → l ≡ [] → Some (whole * 1000) ≡ fraction_of l whole
unfolding fraction_of fraction_form filled digits number_from
fraction-over whole e = rw e (ap Some (omega arith))

pub fraction-point : {l t : List ℕ} {c : ℕ} (whole : ℕ) → l ≡ c ∷ t → c ≡ 0x2E → point_of t whole ≡ fraction_of l whole
unfolding fraction_of fraction_form point_of
fraction-point whole e q = rw (e, eq-eqb _ _ q)

pub fraction-other : {l t : List ℕ} {c : ℕ} (whole : ℕ) → l ≡ c ∷ t → (c ≡ 0x2E → ⊥) → None ≡ fraction_of l whole
unfolding fraction_of fraction_form
fraction-other whole e q = rw (e, ne_eqb _ _ q)

-- after the sign
module _ (l : List ℕ) {k : ℕ} (count : k ≡ digits 12 l) where
  pub unsigned-none : k ≡ 0 → None ≡ unsigned_of l
  unfolding unsigned_of unsigned_form
  unsigned-none z = rw (← count, eq-eqb _ _ z)

  pub unsigned-some : (k ≡ 0 → ⊥) → {x : ℕ} → x ≡ number_from 0 (take k l) → fraction_of (drop k l) x ≡ unsigned_of l
  unfolding unsigned_of unsigned_form fraction_of thousandths
  unsigned-some z {x} value = rw (← count, ne_eqb _ _ z, value)

-- the sign: whether there is one, and what follows it
pub sign-over : {l : List ℕ} → l ≡ [] → (false ≡ minus l) × (l ≡ unsigned l)
unfolding minus unsigned
sign-over e = (rw e, rw e)

module _ {l t : List ℕ} {c : ℕ} (e : l ≡ c ∷ t) where
  pub sign-minus : c ≡ 0x2D → (true ≡ minus l) × (t ≡ unsigned l)
  unfolding minus unsigned
  sign-minus q = (rw (e, eq-eqb _ _ q), rw (e, eq-eqb _ _ q))

  pub sign-none : (c ≡ 0x2D → ⊥) → (false ≡ minus l) × (l ≡ unsigned l)
  unfolding minus unsigned
  sign-none q = (rw (e, ne_eqb _ _ q), rw (e, ne_eqb _ _ q))

signed-amount : (l : List ℕ) → signed_of (minus l) (unsigned_of (unsigned l)) ≡ amount_of l
unfolding signed_of unsigned_of amount_of written_amount
signed-amount l =
    let u = unsigned l in
    elim (unsigned_form u) as (λ (b : Bool). signed_of (minus l) (cond b (Some (thousandths u)) None) ≡ cond b (Some (signed (minus l) (thousandths u))) None)
    [ true ↦ refl | false ↦ refl ]

-- m tells the sign of the value v, r is the part after it, and u the amount there
pub amount-is : (v : List ℕ) {m : Bool} {r t : List ℕ} {u : Option ℕ} → m ≡ minus (says v) → says t ≡ unsigned (says v) → r ≡ t → u ≡ unsigned_of (says r) → signed_of m u ≡ amount_of (says v)
amount-is v e f d g = rw (g, d, f, e) (signed-amount (says v))

-- a number that counts
pub number-over : {l : List ℕ} (most : ℕ) → l ≡ [] → None ≡ number_within most l
unfolding number_within number_form only_digits
number-over most e = rw (e, digits-none most)

pub number-zero : {l t : List ℕ} {c : ℕ} (most : ℕ) → l ≡ c ∷ t → c ≡ 0x30 → None ≡ number_within most l
unfolding number_within number_form
number-zero most e q = rw (e, eq-eqb _ _ q)

module _ {l t : List ℕ} {c : ℕ} (most : ℕ) (e : l ≡ c ∷ t) (q : c ≡ 0x30 → ⊥) where
  form : number_form most l ≡ only_digits most l
  unfolding number_form
  form = rw (e, ne_eqb _ _ q)

  pub number-no : only_digits most l ≡ false → None ≡ number_within most l
  unfolding number_within
  number-no o = rw (form, o)

  pub number_is : {k x : ℕ} → only_digits most l ≡ true → k ≡ digits most l → x ≡ number_from 0 (take k l) → Some x ≡ number_within most l
  unfolding number_within
  number_is o count value = rw (form, o, ← count, value)

from_zero : (n : ℕ) → pos 0 -ℤ pos n ≡ neg_ℤ (pos n)
from_zero n = +ℤ_idl (neg_ℤ (pos n))

negated-mag : (n : ℕ) → n < 10 ^ 17 → mag (neg_ℤ (pos n)) < 2 ^ 63
negated-mag zero h = omega arith
negated-mag (suc n) h = omega arith

-- k digits say less than the power of ten
pub digits-small : (m : ℕ) {k x : ℕ} → k ≤ m → x < (0 + 1) * 10 ^ k → x < 10 ^ m
digits-small m {k} h s = let p : 10 ^ k ≤ 10 ^ m = pow-le-pow_right (lit< tt) h in omega arith

-- an amount and its negative fit an i64
module _ (n : ℕ) (h : n < 10 ^ 17) where
  pub plain-is : to_z w64 n ≡ pos n
  plain-is = to_z_pos w64 (omega arith)

  pub negated-is : pos 0 -ℤ to_z w64 n ≡ neg_ℤ (pos n)
  negated-is = rw plain-is (from_zero n)

  pub negated_fits : SFits w64 (pos 0 -ℤ to_z w64 n)
  negated_fits = rw negated-is (sfits_of (negated-mag n h))

  pub negated_back : to_z w64 (of_z w64 (pos 0 -ℤ to_z w64 n)) ≡ neg_ℤ (pos n)
  negated_back = to_z-of_z negated_fits ∙ negated-is
