-- What stands first in values that differ only in digits outside references is the same, or two digits; and so a value ends where the other does.
-- Assumes nothing.
use Prim.Native.Nat.{ℕ, zero, suc, pred}
use mathlib.Core.Path.{◌≡◌, refl, sym, ap, ◌∙◌}
use mathlib.Core.List.{List, ◌∷◌}
use mathlib.Core.Bool.{Bool, true, false}
use mathlib.Core.Logic.{inl, inr, ⊎_elim}
use native.Mathlib.Omega.{arith}
use Rattle.std.specs.Prelude.{Option, Some, None}
use Rattle.lists.proofs.Cases.{bool_cases, eqb-cases, never}
use Rattle.slices.specs.Bytes.{byte}
use Rattle.slices.specs.Walk.{WalkStep, go, stop, walk}
use Rattle.characters.specs.Utf8.{char_at}
use Rattle.characters.specs.References.{reference_at}
use Rattle.characters.specs.Says.{Met, referred, standing, met}
use Rattle.characters.proofs.Ascii.{char-printed}
use Rattle.characters.proofs.Low.{Level, char-level}
use Rattle.characters.proofs.Units.{reference-inside, reference-front, reference-shut}
use Rattle.attributes.specs.Attribute.{quote, standing_next, value_next, value_over, value}
use Rattle.attributes.proofs.Values.{met-amp, met-other}
use Rattle.characters.specs.References.{digit}
use Rattle.numbers.proofs.Reading.{digit-range}
use Rattle.numbers.specs.Alike.{Like}
use Rattle.digits.specs.Unseen.{Unseen}
use Rattle.digits.specs.Outside.{AlikeFrom, none, same, digits}
use Rattle.digits.proofs.Places.{alike-append, alike-sym, alike-length, alike-byte, alike-reference}
use Rattle.digits.proofs.Tests.{blind-quote, blind-fit, blind-mark}

-- the same, or two digits that stand
pub data LikeMet : Met → Met → Type 0 where
  equal : (x : Met) → LikeMet x x
  numerals : {c d : ℕ} → digit c ≡ true → digit d ≡ true → LikeMet (standing (Some (c, 1))) (standing (Some (d, 1)))

like-level : {c d : ℕ} → Like c d → Level c d
like-level (inl e) = inl e
like-level {c} {d} (inr e) = let p = digit-range c e.0 in let q = digit-range d e.1 in inr (omega arith, omega arith)

-- a digit as its first byte is what is met
digit-met : (x : List ℕ) → digit (byte x 0) ≡ true → met x ≡ standing (Some (byte x 0, 1))
digit-met x e =
    let r = digit-range (byte x 0) e in
    met-other x (λ z. omega (arith, z, r.0)) ∙ ap standing (char-printed x (omega arith) (omega arith))

-- a reference is the same one: its bytes are
reference-again : {o : Bool} {x y : List ℕ} {c n : ℕ} → AlikeFrom o x y → byte x 0 ≡ 0x26 → reference_at x ≡ Some (c, n) → reference_at y ≡ Some (c, n)
reference-again {x = x} {y = y} {n = n} r a e =
    let long = alike-length r in
    let inside = reference-inside x e in
    reference-front x y e (omega arith) (alike-reference r a n (reference-shut x e).only)

reference-same : {o : Bool} {x y : List ℕ} → AlikeFrom o x y → byte x 0 ≡ 0x26 → byte y 0 ≡ 0x26 → reference_at x ≡ reference_at y
reference-same {x = x} {y = y} r a b = by (reference_at x) refl (reference_at y) refl
  where
    by : (u : Option (ℕ × ℕ)) → reference_at x ≡ u → (w : Option (ℕ × ℕ)) → reference_at y ≡ w → reference_at x ≡ reference_at y
    by (Some (c, n)) e w f = e ∙ sym (reference-again r a e)
    by None e (Some (c, n)) f = reference-again (alike-sym r) b f ∙ sym f
    by None e None f = e ∙ sym f

pub alike-met : {o : Bool} {x y : List ℕ} → AlikeFrom o x y → LikeMet (met x) (met y)
alike-met {x = x} {y = y} r =
    ⊎_elim
    (λ e.
    ⊎_elim
    (λ a. let b = sym e ∙ a.0 in rw (met-amp x a.0, met-amp y b, reference-same r a.0 b) (equal (referred (reference_at y))))
    (λ a. rw (met-other x a.0, met-other y (λ z. a.0 (e ∙ z)), char-level x y e (λ k. like-level (alike-byte r k))) (equal (standing (char_at y))))
    (eqb-cases (byte x 0) 0x26))
    (λ e. rw (digit-met x e.0, digit-met y e.1) (numerals e.0 e.1))
    (alike-byte r 0)

-- what does not tell digits apart does not tell apart what is met so
like-met : {A : Type 0} (f : Met → A) → ((c d : ℕ) → digit c ≡ true → digit d ≡ true → f (standing (Some (c, 1))) ≡ f (standing (Some (d, 1))))
    → {x y : Met} → LikeMet x y → f x ≡ f y
like-met f h (equal x) = refl
like-met f h (numerals {c} {d} p q) = h c d p q

-- a walk whose every step is the same over such lists
module _ {A S R : Type 0} (look : List ℕ → A) (then : S → A → WalkStep S R) (over : S → R)
    (h : (o : Bool) (st : S) (x y : List ℕ) → AlikeFrom o x y → then st (look x) ≡ then st (look y)) where
  both : (x y : List ℕ) (z : WalkStep S R) → ((st : S) (k : ℕ) → walk look then over st k x ≡ walk look then over st k y)
      → ◌≡◌ {A = R} (elim z [ go n st' ↦ walk look then over st' (pred n) x | stop a ↦ a ]) (elim z [ go n st' ↦ walk look then over st' (pred n) y | stop a ↦ a ])
  both x y (go n st') f = f st' (pred n)
  both x y (stop a) f = refl

  alike-walk : {o : Bool} {x y : List ℕ} → AlikeFrom o x y → (st : S) (k : ℕ) → walk look then over st k x ≡ walk look then over st k y
  unfolding walk
  alike-walk none st k = refl
  alike-walk (same b r) st (suc k) = alike-walk r st k
  alike-walk (digits e f r) st (suc k) = alike-walk r st k
  alike-walk (same {o} {x} {y} b r) st zero = rw (walk, h o st (b ∷ x) (b ∷ y) (same b r)) (both x y (then st (look (b ∷ y))) (alike-walk r))
  alike-walk (digits {c} {d} {x} {y} e f r) st zero = rw (walk, h false st (c ∷ x) (d ∷ y) (digits e f r)) (both x y (then st (look (d ∷ y))) (alike-walk r))

value-step : (q : ℕ) → digit q ≡ false → (at c d : ℕ) → digit c ≡ true → digit d ≡ true → value_next q at (standing (Some (c, 1))) ≡ value_next q at (standing (Some (d, 1)))
unfolding value_next standing_next
value-step q n at c d e f =
    let b = blind-mark q n in
    rw (blind-fit.each c e, blind-fit.each d f, b.each c e, b.each d f)

-- up to a quote that is no digit
alike-value : (q : ℕ) → digit q ≡ false → {o : Bool} {x y : List ℕ} → AlikeFrom o x y → value q x ≡ value q y
unfolding value
alike-value q n r =
    alike-walk met (value_next q) value_over (λ o at x y z. like-met (value_next q at) (value-step q n at) (alike-met z)) r 0 0

-- a quote is no digit
quote-digit : (q : ℕ) → quote q ≡ true → digit q ≡ false
quote-digit q h = ⊎_elim (λ y. never (sym (blind-quote.each q y) ∙ h)) (λ y. y) (bool_cases (digit q))

-- the first use: values that differ only in digits outside references
pub digits-unseen : Unseen (AlikeFrom false)
digits-unseen =
    record { whole = λ r q rest t v. sym (alike-value q (quote-digit q t) (alike-append (q ∷ rest) r)) ∙ v ∙ ap Some (alike-length r) }
