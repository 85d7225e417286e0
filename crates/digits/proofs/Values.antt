-- Values that differ only in digits outside references: what they say differs in digits alone, and one is an amount exactly when the other is. Assumes nothing.
use Prim.Native.Nat.{ℕ, zero, suc, pred}
use mathlib.Core.Path.{◌≡◌, refl, sym, ◌∙◌}
use mathlib.Core.List.{List, [], ◌∷◌}
use mathlib.Core.Bool.{Bool, true, false, cond}
use mathlib.Core.Logic.{inl, inr}
use lib.IntN.{ℤ}
use Rattle.std.specs.Prelude.{Option, Some, None}
use Rattle.characters.proofs.Saying.{said-some}
use Rattle.characters.specs.Says.{Met, met, char_of, said_by, says_after, says}
use Rattle.trims.specs.Trim.{space, drop_lead, kept_before, drop_trail, dropped}
use Rattle.numbers.specs.Amount.{minus, unsigned, written_amount, thousandths, signed, amount_of}
use Rattle.std.specs.Prelude.{Some, None, is_some}
use Rattle.numbers.proofs.Blind.{blind}
use Rattle.rules.specs.Rules.{amount, form_refusal, code_no, judge}
use Rattle.rules.specs.declared.Held.{Held}
use Rattle.numbers.specs.Alike.{Like, Alike, none, next}
use Rattle.digits.specs.Outside.{AlikeFrom, none as over, same, digits}
use Rattle.digits.proofs.Tests.{like-test, blind-space}
use Rattle.digits.proofs.Chars.{LikeMet, equal, numerals, alike-met}

-- the same choice of alike lists
choice : (t : Bool) {a b a' b' : List ℕ} → Alike a a' → Alike b b' → Alike (cond t a b) (cond t a' b')
choice true p q = p
choice false p q = q

alike-lead : {x y : List ℕ} → Alike x y → Alike (drop_lead x) (drop_lead y)
unfolding drop_lead
alike-lead none = none
alike-lead (next {c} {d} e r) = rw (like-test blind-space e) (choice (space d) (alike-lead r) (next e r))

alike-keep : {c d : ℕ} {x y : List ℕ} → Like c d → Alike x y → Alike (kept_before c x) (kept_before d y)
unfolding kept_before
alike-keep {c} {d} e none = rw (like-test blind-space e) (choice (space d) none (next e none))
alike-keep e (next f r) = next e (next f r)

alike-trail : {x y : List ℕ} → Alike x y → Alike (drop_trail x) (drop_trail y)
unfolding drop_trail
alike-trail none = none
alike-trail (next e r) = alike-keep e (alike-trail r)

pub alike-dropped : {x y : List ℕ} → Alike x y → Alike (dropped x) (dropped y)
unfolding dropped
alike-dropped r = alike-trail (alike-lead r)

-- what is said first, and then what comes after it in t
said_then : Option (ℕ × ℕ) → List ℕ → List ℕ
said_then (Some (c, n)) t = c ∷ says_after (pred n) t
said_then None t = []

said-then : (c : ℕ) (t : List ℕ) (x : Option (ℕ × ℕ)) → char_of (met (c ∷ t)) ≡ x → says_after zero (c ∷ t) ≡ said_then (said_by x) t
unfolding says_after said_by said_then
said-then c t (Some (d, n)) q = rw (says_after, said-some c t, q)
said-then c t None q = rw (says_after, said-some c t, q)

module _ (x y : List ℕ) (f : (k : ℕ) → Alike (says_after k x) (says_after k y)) where
  same_then : (z : Option (ℕ × ℕ)) → Alike (said_then (said_by z) x) (said_then (said_by z) y)
  unfolding said_by said_then
  same_then (Some (c, n)) = next (inl refl) (f (pred n))
  same_then None = next (inl refl) (f 0)

  like-then : {a b : Met} → LikeMet a b → Alike (said_then (said_by (char_of a)) x) (said_then (said_by (char_of b)) y)
  unfolding char_of said_by said_then
  like-then (equal a) = same_then (char_of a)
  like-then (numerals p q) = next (inr (p, q)) (f 0)

  alike-first : {o : Bool} {c d : ℕ} → AlikeFrom o (c ∷ x) (d ∷ y) → Alike (says_after zero (c ∷ x)) (says_after zero (d ∷ y))
  alike-first {c = c} {d = d} r = rw (said-then c x (char_of (met (c ∷ x))) refl, said-then d y (char_of (met (d ∷ y))) refl) (like-then (alike-met r))

alike-after : {o : Bool} {x y : List ℕ} → AlikeFrom o x y → (k : ℕ) → Alike (says_after k x) (says_after k y)
unfolding says_after
alike-after over k = none
alike-after (same b r) (suc k) = alike-after r k
alike-after (digits e f r) (suc k) = alike-after r k
alike-after (same {x = x} {y = y} b r) zero = alike-first x y (alike-after r) (same b r)
alike-after (digits {x = x} {y = y} e f r) zero = alike-first x y (alike-after r) (digits e f r)

pub alike-says : {o : Bool} {x y : List ℕ} → AlikeFrom o x y → Alike (says x) (says y)
unfolding says
alike-says r = alike-after r 0

by_form : (l : List ℕ) → is_some (amount_of l) ≡ written_amount l
unfolding amount_of
by_form l = taken (written_amount l) (signed (minus l) (thousandths (unsigned l)))
  where
    taken : (t : Bool) (z : ℤ) → is_some (cond t (Some z) None) ≡ t
    taken true z = refl
    taken false z = refl

-- "Refusing an amount by its size, so that a note tells something about a price": what is said is an amount, or not, whatever its digits are
pub alike-amount : {l m : List ℕ} → Alike l m → is_some (amount_of l) ≡ is_some (amount_of m)
alike-amount {l} {m} r = by_form l ∙ blind r ∙ sym (by_form m)

-- the form of an amount is 10
pub alike-judged : {l m : List ℕ} (h : Held) → Alike l m → judge 10 h l ≡ judge 10 h m
unfolding judge form_refusal code_no amount
alike-judged {l} {m} h r = rw (alike-amount r)

-- of a value as the guideline's row for an amount reads it: what it says, spaces dropped
pub alike_read : {o : Bool} {x y : List ℕ} (h : Held) → AlikeFrom o x y → judge 10 h (dropped (says x)) ≡ judge 10 h (dropped (says y))
alike_read h r = alike-judged h (alike-dropped (alike-says r))
