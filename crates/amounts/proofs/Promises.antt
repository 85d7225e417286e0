-- What is promised of written amounts and positions.
--     read-back, amount-shortest   the reader takes the text of an amount for that amount, and it is shortest
--     only-shortest, none-shorter  no other text of the amount is shortest, and none has fewer characters
--     amount-length                it has at most 17
--     position-back, only-position the same of a position
--     amount-said, position-said   the bytes say themselves, none needs a reference, and none is a space
--     amount-in-value, position-in-value   so the document reader has them from a value
--     amount-examples, least-example   some amounts
-- Assumes nothing.
use Prim.Native.Nat.{ℕ, zero, suc, ◌+◌, ◌*◌, ◌/◌, ◌%◌, ◌^◌, ◌≤◌, ◌<◌}
use Prim.Native.Char.{code}
use mathlib.Core.Path.{◌≡◌, refl, sym, ap, ◌∙◌}
use mathlib.Core.List.{List, [], ◌∷◌, ◌++◌, map}
use mathlib.Core.Bool.{Bool, true, false, cond}
use mathlib.Core.Logic.{⊎_elim}
use native.Mathlib.Omega.{arith}
use lib.Dec.{eqb}
use lib.IntN.{ℤ, pos, negsuc, nat_abs}
use lib.ListN.{length, get_or, length-append}
use lib.Seq.{take-length}
use borrow.Author.Tests.{ne_eqb, eqb-false}
use Rattle.lists.proofs.Cases.{bool_cases, past-cond, never, zero-not-one}
use Rattle.slices.specs.Text.{text}
use Rattle.characters.specs.Says.{says}
use Rattle.characters.specs.References.{digit}
use Rattle.trims.specs.Trim.{dropped}
use Rattle.numbers.specs.Digits.{digits, number_from, nothing_left, only_digits}
use Rattle.numbers.specs.Number.{number_form, at_most_nine, number_within, number_of}
use Rattle.numbers.specs.Amount.{minus, unsigned, fraction_form, unsigned_form, written_amount, filled, thousandths, signed, amount_of}
use Rattle.std.specs.Prelude.{Some}
use Rattle.wholes.specs.Whole.{whole_in, whole_text}
use Rattle.amounts.specs.Texts.{decimals, pointed, fraction_text, unsigned_text, amount_text}
use Rattle.amounts.specs.Shortest.{Shortest, whole_digits, fraction_digits}
use Rattle.wholes.proofs.Wholes.{whole-some, whole-few}
use Rattle.amounts.proofs.Digits.{whole-digits, whole_says, whole-front, whole-leading, whole-only, whole-least}
use Rattle.amounts.proofs.Fractions.{worth, worth-small, decimals-told, decimals-only, decimals-least, pointed-le}
use Rattle.amounts.proofs.Plain.{plain-said, plain-kept, digits-plain, amount-plain}
use Rattle.amounts.proofs.Shapes.{all-counted, only-all, only-split, shape, Parts, Shaped, shaped, minus_is, whole_is, fraction-is, value-is, amount-is}

-- ---- the text has the shape of an amount

-- n thousandths
text-parts : (n : ℕ) → n < 10 ^ 15 → Parts (whole_text (n / 1000)) (decimals (n % 1000))
text-parts n h =
    let t = decimals-told (n % 1000) (omega arith) in
    record {
      all = whole-digits (n / 1000);
      some = whole-some (n / 1000);
      most = whole-few 11 (n / 1000) (omega arith);
      after = t.all;
      few = t.few;
    }

text-value : (n : ℕ) → number_from 0 (whole_text (n / 1000)) * 1000 + worth (decimals (n % 1000)) ≡ n
text-value n = let t = decimals-told (n % 1000) (omega arith) in rw (whole_says (n / 1000), t.says) (omega arith)

text-shape : (n : ℕ) (b : Bool) → cond b (code "-" ∷ []) [] ++ unsigned_text n ≡ shape b (whole_text (n / 1000)) (decimals (n % 1000))
unfolding unsigned_text fraction_text
text-shape n b = refl

-- "It is stored in thousandths": the reader takes the text of an amount for the amount
pub read_back : (m : ℤ) → nat_abs m < 10 ^ 15 → amount_of (amount_text m) ≡ Some m
unfolding amount_text signed
read_back (pos n) h = ap amount_of (text-shape n false) ∙ amount-is (text-parts n h) false ∙ rw (text-value n)
read_back (negsuc n) h = ap amount_of (text-shape (suc n) true) ∙ amount-is (text-parts (suc n) h) true ∙ rw (text-value (suc n))

shape-shortest : (n : ℕ) (b : Bool) → n < 10 ^ 15 → (b ≡ true → n ≡ 0 → ⊥) → Shortest (shape b (whole_text (n / 1000)) (decimals (n % 1000)))
shape-shortest n b h z =
    let p = text-parts n h in
    let t = decimals-told (n % 1000) (omega arith) in
    record {
      leading = rw (whole_is p b) (whole-leading (n / 1000));
      trailing = rw (fraction-is p b) t.trailing;
      sign = rw (minus_is p b, value-is p b, text-value n) z;
    }

-- "Amounts are shortest"
pub amount-shortest : (m : ℤ) → nat_abs m < 10 ^ 15 → Shortest (amount_text m)
unfolding amount_text
amount-shortest (pos n) h = rw (text-shape n false) (shape-shortest n false h (λ e. never e))
amount-shortest (negsuc n) h = rw (text-shape (suc n) true) (shape-shortest (suc n) true h (λ e z. omega (arith, z)))

-- ---- no other text is

-- a text that is taken for m is written
taken-written : (t : List ℕ) {m : ℤ} → amount_of t ≡ Some m → written_amount t ≡ true
unfolding amount_of
taken-written t e =
    ⊎_elim (λ (y : written_amount t ≡ true). y) (λ (y : written_amount t ≡ false). let z = rw y at e in absurd (zero-not-one (cc))) (bool_cases (written_amount t))

text_of : (q r : ℕ) → r < 1000 → unsigned_text (q * 1000 + r) ≡ whole_text q ++ pointed (decimals r)
unfolding unsigned_text fraction_text
text_of q r h =
    let d : (q * 1000 + r) / 1000 ≡ q = omega arith in
    let m : (q * 1000 + r) % 1000 ≡ r = omega arith in
    rw (d, m)

-- the sign, which stands before the text of n exactly where n is not 0, or before no shorter one
signed-text : (b : Bool) (n : ℕ) → (b ≡ true → n ≡ 0 → ⊥) → cond b (code "-" ∷ []) [] ++ unsigned_text n ≡ amount_text (signed b n)
unfolding amount_text signed
signed-text false n z = refl
signed-text true zero z = absurd (z refl refl)
signed-text true (suc n) z = refl

signed-least : (b : Bool) (n : ℕ) → length (amount_text (signed b n)) ≤ length (cond b (code "-" ∷ []) [] ++ unsigned_text n)
unfolding amount_text signed
signed-least false n = omega arith
signed-least true zero = omega arith
signed-least true (suc n) = omega arith

module _ (t : List ℕ) (m : ℤ) (e : amount_of t ≡ Some m) where
  s : Shaped t
  s = shaped t (taken-written t e)

  value : signed s.b (number_from 0 s.w * 1000 + worth s.f) ≡ m
  value = let q = sym (amount-is s.parts s.b) ∙ ap amount_of (sym s.is) ∙ e in cc

  text-is : unsigned_text (number_from 0 s.w * 1000 + worth s.f) ≡ whole_text (number_from 0 s.w) ++ pointed (decimals (worth s.f))
  text-is = text_of (number_from 0 s.w) (worth s.f) (worth-small s.f s.parts.after s.parts.few)

  -- a shortest text that the reader takes for the amount is the one that is written
  pub only-shortest : Shortest t → t ≡ amount_text m
  only-shortest short =
      let p = s.parts in
      let o = rw s.is at short in
      let w : s.w ≡ whole_text (number_from 0 s.w) = whole-only s.w p.all p.some (rw (whole_is p s.b) at o.leading) in
      let f : s.f ≡ decimals (worth s.f) =
      decimals-only (worth s.f) s.f (record { all = p.after; few = p.few; says = refl; trailing = rw (fraction-is p s.b) at o.trailing }) in
      let z = rw (minus_is p s.b, value-is p s.b) at o.sign in
      s.is
      ∙ ap (λ (x : List ℕ). cond s.b (code "-" ∷ []) [] ++ x) (ap (λ (x : List ℕ). x ++ pointed s.f) w ∙ ap (λ (x : List ℕ). whole_text (number_from 0 s.w) ++ pointed x) f ∙ sym text-is)
      ∙ signed-text s.b (number_from 0 s.w * 1000 + worth s.f) z
      ∙ ap amount_text value

  -- and no text that it takes for the amount is shorter
  pub none-shorter : length (amount_text m) ≤ length t
  none-shorter =
      let p = s.parts in
      let q = number_from 0 s.w in
      let sign = cond s.b (code "-" ∷ []) [] in
      let a = signed-least s.b (q * 1000 + worth s.f) in
      let v = ap (λ (x : ℤ). length (amount_text x)) value in
      let c = length-append sign (unsigned_text (q * 1000 + worth s.f)) in
      let d = ap length text-is ∙ length-append (whole_text q) (pointed (decimals (worth s.f))) in
      let g = ap length s.is ∙ length-append sign (s.w ++ pointed s.f) in
      let h = length-append s.w (pointed s.f) in
      omega (arith, whole-least s.w p.all p.some, pointed-le (decimals (worth s.f)) s.f (decimals-least s.f))

-- ---- its length

pointed-few : (l : List ℕ) → length (pointed l) ≤ length l + 1
unfolding pointed
pointed-few [] = omega arith
pointed-few (c ∷ l) = omega arith

unsigned-length : (n : ℕ) → n < 10 ^ 15 → length (unsigned_text n) ≤ 16
unfolding unsigned_text fraction_text
unsigned-length n h =
    let p = text-parts n h in
    omega (arith, p.most, p.few, length-append (whole_text (n / 1000)) (pointed (decimals (n % 1000))), pointed-few (decimals (n % 1000)))

-- a minus, twelve digits, a point and three more
pub amount-length : (m : ℤ) → nat_abs m < 10 ^ 15 → length (amount_text m) ≤ 17
unfolding amount_text
amount-length (pos n) h = omega (arith, unsigned-length n h)
amount-length (negsuc n) h = omega (arith, unsigned-length (suc n) h)

-- ---- positions

-- "one to five digits, no leading zero"
pub position-back : (n : ℕ) → 1 ≤ n → n ≤ 99999 → number_of (whole_text n) 5 ≡ Some n
unfolding number_of at_most_nine number_within number_form
position-back n l h =
    let few = whole-few 4 n (omega arith) in
    rw (
      ne_eqb (get_or (whole_text n) 0 0) 0x30 (whole-front n l),
      only-all 5 (whole_text n) (whole-digits n) (whole-some n) few,
      all-counted 5 (whole_text n) (whole-digits n) few,
      take-length (whole_text n),
      whole_says n,
    )

-- no other text is taken for the position
pub only-position : (t : List ℕ) (n : ℕ) → number_of t 5 ≡ Some n → t ≡ whole_text n
unfolding number_of at_most_nine number_within number_form
only-position t n e = ⊎_elim (λ (y : number_form 5 t ≡ true). yes y) (λ (y : number_form 5 t ≡ false). let z = rw y at e in absurd (zero-not-one (cc))) (bool_cases (number_form 5 t))
  where
    yes : number_form 5 t ≡ true → t ≡ whole_text n
    yes y =
        let p = past-cond (eqb (get_or t 0 0) (code "0")) (λ z. never z) y in
        let other = eqb-false (get_or t 0 0) (code "0") p.0 in
        let d = only-split 5 t p.1 in
        let c = all-counted 5 t d.0 d.1.1 in
        let q = rw (y, c, take-length t) at e in
        let v : number_from 0 t ≡ n = cc in
        whole-only t d.0 d.1.0 (λ z. absurd (other z)) ∙ ap whole_text v

-- ---- as a value in a document

-- "references only where a byte needs one": none does, and what the bytes say is the text; and it has no space that a collapsed value would lose
pub amount-said : (m : ℤ) → (says (amount_text m) ≡ amount_text m) × (dropped (amount_text m) ≡ amount_text m)
amount-said m = let p = amount-plain m in (plain-said (amount_text m) p, plain-kept (amount_text m) p)

pub position-said : (n : ℕ) → (says (whole_text n) ≡ whole_text n) × (dropped (whole_text n) ≡ whole_text n)
position-said n = let p = digits-plain (whole_text n) (whole-digits n) in (plain-said (whole_text n) p, plain-kept (whole_text n) p)

-- so the document reader, which judges a value by what it says without the spaces at its ends, has the amount and the position from it
pub amount-in-value : (m : ℤ) → nat_abs m < 10 ^ 15 → amount_of (dropped (says (amount_text m))) ≡ Some m
amount-in-value m h = let p = amount-said m in rw (p.0, p.1) (read_back m h)

pub position-in-value : (n : ℕ) → 1 ≤ n → n ≤ 99999 → number_of (dropped (says (whole_text n))) 5 ≡ Some n
position-in-value n l h = let p = position-said n in rw (p.0, p.1) (position-back n l h)

-- ---- some amounts

pub amount-examples : map amount_text (pos 0 ∷ negsuc 0 ∷ pos 10 ∷ pos 500 ∷ pos 1000 ∷ negsuc 1499 ∷ pos 100000 ∷ [])
    ≡ text "0" ∷ text "-0.001" ∷ text "0.01" ∷ text "0.5" ∷ text "1" ∷ text "-1.5" ∷ text "100" ∷ []
unfolding amount_text unsigned_text fraction_text whole_in decimals pointed
amount-examples = refl

-- the least amount that is read; its text is known without its digits being worked out
pub least-example : amount_text (negsuc 999999999999998) ≡ text "-999999999999.999"
unfolding amount_of written_amount unsigned_form unsigned minus fraction_form only_digits nothing_left digits digit number_from thousandths filled signed whole_digits fraction_digits
least-example =
    sym
    (only-shortest (text "-999999999999.999") (negsuc 999999999999998) refl
    (record { leading = λ e. absurd (omega (arith, e)); trailing = λ e. omega (arith, e); sign = λ e z. omega (arith, z) }))
