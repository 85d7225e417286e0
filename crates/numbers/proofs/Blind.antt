-- Whether a text has the form of an amount does not hang on its digits. Assumes nothing.
use Prim.Native.Nat.{ℕ, zero, suc, ◌<◌}
use mathlib.Core.Path.{◌≡◌, refl, sym, ap, ◌∙◌}
use mathlib.Core.List.{List}
use mathlib.Core.Bool.{Bool, true, false, cond}
use mathlib.Core.Logic.{inl, inr}
use native.Mathlib.Omega.{arith}
use lib.Dec.{eqb}
use lib.ListN.{drop}
use borrow.Author.Tests.{ne_eqb}
use Rattle.characters.specs.References.{digit}
use Rattle.numbers.specs.Digits.{digits, nothing_left, only_digits}
use Rattle.numbers.specs.Amount.{minus, unsigned, fraction_form, unsigned_form, written_amount}
use Rattle.numbers.specs.Alike.{Like, Alike, none, next}
use Rattle.numbers.proofs.Reading.{digit-range}

like-digit : {c d : ℕ} → Like c d → digit c ≡ digit d
like-digit (inl e) = ap digit e
like-digit (inr e) = e.0 ∙ sym e.1

-- a sign or a point is no digit
like-mark : {c d : ℕ} (k : ℕ) → k < 0x30 → Like c d → eqb c k ≡ eqb d k
like-mark k h (inl e) = ap (λ (x : ℕ). eqb x k) e
like-mark {c} {d} k h (inr e) =
    let p = digit-range c e.0 in
    let q = digit-range d e.1 in
    ne_eqb c k (λ z. omega arith) ∙ sym (ne_eqb d k (λ z. omega arith))

like-digits : {l m : List ℕ} (k : ℕ) → Alike l m → digits k l ≡ digits k m
unfolding digits
like-digits zero r = refl
like-digits (suc k) none = refl
like-digits (suc k) (next e r) = rw (like-digit e, like-digits k r)

-- parts of alike lists
pub alike-drop : {l m : List ℕ} (n : ℕ) → Alike l m → Alike (drop n l) (drop n m)
alike-drop zero r = r
alike-drop (suc n) none = none
alike-drop (suc n) (next e r) = alike-drop n r

like-ended : {l m : List ℕ} → Alike l m → nothing_left l ≡ nothing_left m
unfolding nothing_left
like-ended none = refl
like-ended (next e r) = refl

like-only : {l m : List ℕ} (k : ℕ) → Alike l m → only_digits k l ≡ only_digits k m
unfolding only_digits
like-only {l} {m} k r = rw (like-digits k r, like-ended (alike-drop (digits k m) r))

like-fraction : {l m : List ℕ} → Alike l m → fraction_form l ≡ fraction_form m
unfolding fraction_form
like-fraction none = refl
like-fraction (next e r) = rw (like-mark 0x2E (omega arith) e, like-only 3 r)

like-unsigned : {l m : List ℕ} → Alike l m → unsigned_form l ≡ unsigned_form m
unfolding unsigned_form
like-unsigned {l} {m} r = rw (like-digits 12 r, like-fraction (alike-drop (digits 12 m) r))

like-minus : {l m : List ℕ} → Alike l m → minus l ≡ minus m
unfolding minus
like-minus none = refl
like-minus (next e r) = like-mark 0x2D (omega arith) e

like-sign : {l m : List ℕ} → Alike l m → Alike (unsigned l) (unsigned m)
unfolding unsigned
like-sign {l} {m} r =
    rw (like-minus r) (elim (minus m) as (λ (t : Bool). Alike (cond t (drop 1 l) l) (cond t (drop 1 m) m)) [ true ↦ alike-drop 1 r | false ↦ r ])

-- the one has the form of an amount exactly when the other has
pub blind : {l m : List ℕ} → Alike l m → written_amount l ≡ written_amount m
unfolding written_amount
blind r = like-unsigned (like-sign r)
