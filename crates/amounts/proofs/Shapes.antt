-- Every written amount is a sign or none, digits, and digits after a point or none; and what the reader makes of these three.
-- Assumes nothing.
use Prim.Native.Nat.{ℕ, zero, suc, ◌+◌, ◌-◌, ◌*◌, ◌≤◌}
use Prim.Native.Char.{code}
use mathlib.Core.Path.{◌≡◌, refl, sym, ap, ◌∙◌}
use mathlib.Core.List.{List, [], ◌∷◌, ◌++◌, append-nil}
use mathlib.Core.Bool.{Bool, true, false, cond}
use mathlib.Core.Logic.{⊎_elim}
use native.Mathlib.Omega.{arith}
use lib.Dec.{eqb}
use lib.ListN.{length, take, drop}
use lib.Seq.{take_at, drop_at, take-length, drop-length}
use borrow.Author.Tests.{ne_eqb, eqb-true, eqb-false}
use Rattle.lists.proofs.Cases.{bool_cases, past-cond, both_true, never}
use Rattle.characters.specs.References.{digit}
use Rattle.numbers.specs.Digits.{digits, number_from, nothing_left, only_digits}
use Rattle.numbers.specs.Amount.{minus, unsigned, fraction_form, unsigned_form, written_amount, filled, thousandths, signed, amount_of}
use Rattle.std.specs.Prelude.{Some}
use Rattle.numbers.proofs.Reading.{digit-range, digits-none}
use Rattle.amounts.specs.Texts.{pointed}
use Rattle.amounts.specs.Shortest.{whole_digits, fraction_digits}
use Rattle.amounts.proofs.Digits.{AllDigits, front, digits-counted}
use Rattle.amounts.proofs.Fractions.{worth, worth-after}

-- "an optional minus, 1 to 12 digits, optionally a point with 1 to 3 digits": b tells whether there is a minus, f is empty where there is no point
abbrev pub shape : Bool → List ℕ → List ℕ → List ℕ
shape b w f = cond b (code "-" ∷ []) [] ++ (w ++ pointed f)

pub record Parts (w f : List ℕ) : Type 0 where
  pub all : AllDigits w
  pub some : 1 ≤ length w
  pub most : length w ≤ 12
  pub after : AllDigits f
  pub few : length f ≤ 3

-- ---- what the reader makes of them

pointed-none : (j : ℕ) (f : List ℕ) → digits j (pointed f) ≡ 0
unfolding digits digit pointed
pointed-none j [] = digits-none j
pointed-none zero (c ∷ f) = refl
pointed-none (suc j) (c ∷ f) = refl

pointed-drop : (f : List ℕ) → drop 1 (pointed f) ≡ f
unfolding pointed
pointed-drop [] = refl
pointed-drop (c ∷ f) = refl

-- digits alone
pub all-counted : (k : ℕ) (f : List ℕ) → AllDigits f → length f ≤ k → digits k f ≡ length f
all-counted k f h m =
    let z : k ≡ length f + (k - length f) = omega arith in
    ap (λ (j : ℕ). digits j f) z
    ∙ ap (digits (length f + (k - length f))) (sym (append-nil f))
    ∙ digits-counted (k - length f) f [] h
    ∙ ap (λ (j : ℕ). length f + j) (digits-none (k - length f))
    ∙ (let e : length f + 0 ≡ length f = omega arith in e)

pub only-all : (k : ℕ) (f : List ℕ) → AllDigits f → 1 ≤ length f → length f ≤ k → only_digits k f ≡ true
unfolding only_digits nothing_left
only-all k f h s m =
    let e = all-counted k f h m in
    rw (e, ne_eqb (length f) 0 (λ z. omega (arith, z)), drop-length f)

pointed-form : (f : List ℕ) → AllDigits f → length f ≤ 3 → fraction_form (pointed f) ≡ true
unfolding fraction_form pointed
pointed-form [] h m = refl
pointed-form (c ∷ f) h m = only-all 3 (c ∷ f) h (omega arith) m

no_minus : (w r : List ℕ) → AllDigits w → 1 ≤ length w → minus (w ++ r) ≡ false
unfolding minus AllDigits
no_minus [] r h s = absurd (omega arith)
no_minus (c ∷ w) r h s = let g = digit-range c h.0 in ne_eqb c 0x2D (λ z. omega arith)

module _ {w f : List ℕ} (p : Parts w f) where
  pub minus_is : (b : Bool) → minus (shape b w f) ≡ b
  unfolding minus
  minus_is true = refl
  minus_is false = no_minus w (pointed f) p.all p.some

  pub unsigned_is : (b : Bool) → unsigned (shape b w f) ≡ w ++ pointed f
  unfolding unsigned
  unsigned_is true = rw (minus_is true)
  unsigned_is false = rw (minus_is false)

  count-is : digits 12 (w ++ pointed f) ≡ length w
  count-is =
      let h = p.most in
      let z : 12 ≡ length w + (12 - length w) = omega arith in
      ap (λ (j : ℕ). digits j (w ++ pointed f)) z
      ∙ digits-counted (12 - length w) w (pointed f) p.all
      ∙ ap (λ (j : ℕ). length w + j) (pointed-none (12 - length w) f)
      ∙ (let e : length w + 0 ≡ length w = omega arith in e)

  take-is : take (digits 12 (w ++ pointed f)) (w ++ pointed f) ≡ w
  take-is = take_at w (pointed f) (digits 12 (w ++ pointed f)) (sym count-is)

  drop-is : drop (digits 12 (w ++ pointed f)) (w ++ pointed f) ≡ pointed f
  drop-is = drop_at w (pointed f) (digits 12 (w ++ pointed f)) (sym count-is)

  pub whole_is : (b : Bool) → whole_digits (shape b w f) ≡ w
  unfolding whole_digits
  whole_is b = rw (unsigned_is b, take-is)

  pub fraction-is : (b : Bool) → fraction_digits (shape b w f) ≡ f
  unfolding fraction_digits
  fraction-is b = rw (unsigned_is b, drop-is, pointed-drop f)

  written_is : (b : Bool) → written_amount (shape b w f) ≡ true
  unfolding written_amount unsigned_form
  written_is b = rw (unsigned_is b, drop-is, count-is, ne_eqb (length w) 0 (λ z. let s = p.some in omega arith)) (pointed-form f p.after p.few)

  pub value-is : (b : Bool) → thousandths (unsigned (shape b w f)) ≡ number_from 0 w * 1000 + worth f
  unfolding thousandths filled
  value-is b =
      let e = all-counted 3 f p.after p.few in
      rw (unsigned_is b, take-is, drop-is, pointed-drop f, e, take-length f) (worth-after (number_from 0 w) f p.few)

  pub amount-is : (b : Bool) → amount_of (shape b w f) ≡ Some (signed b (number_from 0 w * 1000 + worth f))
  unfolding amount_of
  amount-is b = rw (written_is b, minus_is b, value-is b)

-- ---- and every written amount has them

pointed-all : (l : List ℕ) → AllDigits l → 1 ≤ length l → code "." ∷ l ≡ pointed l
unfolding pointed
pointed-all [] h s = absurd (omega arith)
pointed-all (c ∷ l) h s = refl

record After (r : List ℕ) : Type 0 where
  f : List ℕ
  all : AllDigits f
  few : length f ≤ 3
  is : r ≡ pointed f

over : (l : List ℕ) → nothing_left l ≡ true → l ≡ []
unfolding nothing_left
over [] e = refl
over (c ∷ l) e = never e

pub only-split : (k : ℕ) (l : List ℕ) → only_digits k l ≡ true → AllDigits l × ((1 ≤ length l) × (length l ≤ k))
unfolding only_digits
only-split k l e =
    let s = front k l in
    let p = past-cond (eqb (digits k l) 0) (λ z. never z) e in
    let n : digits k l ≡ 0 → ⊥ = eqb-false (digits k l) 0 p.0 in
    let d : drop (digits k l) l ≡ s.r = ap (drop (digits k l)) s.whole ∙ drop_at s.w s.r (digits k l) (sym s.count) in
    let z : s.r ≡ [] = sym d ∙ over (drop (digits k l) l) p.1 in
    let q : l ≡ s.w = s.whole ∙ rw z (append-nil s.w) in
    rw q (s.all, (omega (arith, n, s.count), s.few))

after_is : (r : List ℕ) → fraction_form r ≡ true → After r
unfolding fraction_form pointed AllDigits
after_is [] e = record { f = []; all = tt; few = omega arith; is = refl }
after_is (c ∷ l) e =
    let p = both_true (eqb c (code ".")) e in
    let s = only-split 3 l p.1 in
    record { f = l; all = s.0; few = s.1.1; is = ap (λ (x : ℕ). x ∷ l) (eqb-true c (code ".") p.0) ∙ pointed-all l s.0 s.1.0 }

sign-first : (t : List ℕ) → t ≡ cond (minus t) (code "-" ∷ []) [] ++ unsigned t
unfolding minus unsigned
sign-first [] = refl
sign-first (c ∷ t) =
    ⊎_elim
    (λ (e : eqb c (code "-") ≡ true). rw e (ap (λ (x : ℕ). x ∷ t) (eqb-true c (code "-") e)))
    (λ (e : eqb c (code "-") ≡ false). rw e)
    (bool_cases (eqb c (code "-")))

pub record Shaped (t : List ℕ) : Type 0 where
  pub b : Bool
  pub w : List ℕ
  pub f : List ℕ
  pub is : t ≡ shape b w f
  pub parts : Parts w f

pub shaped : (t : List ℕ) → written_amount t ≡ true → Shaped t
unfolding written_amount unsigned_form
shaped t e =
    let u = unsigned t in
    let s = front 12 u in
    let p = past-cond (eqb (digits 12 u) 0) (λ z. never z) e in
    let n : digits 12 u ≡ 0 → ⊥ = eqb-false (digits 12 u) 0 p.0 in
    let d : drop (digits 12 u) u ≡ s.r = ap (drop (digits 12 u)) s.whole ∙ drop_at s.w s.r (digits 12 u) (sym s.count) in
    let a = after_is s.r (rw d at p.1) in
    record {
      b = minus t;
      w = s.w;
      f = a.f;
      is = sign-first t ∙ ap (λ (x : List ℕ). cond (minus t) (code "-" ∷ []) [] ++ x) (s.whole ∙ ap (λ (x : List ℕ). s.w ++ x) a.is);
      parts = record { all = s.all; some = omega (arith, n, s.count); most = s.few; after = a.all; few = a.few };
    }
