-- A text without `&` says its own characters, and one with an `&` has it among its characters. Assumes nothing.
use Prim.Native.Nat.{ℕ, zero, suc, pred, ◌+◌, ◌/◌, ◌%◌, ◌≤◌}
use Prim.Native.Char.{code}
use mathlib.Core.Path.{◌≡◌, refl, sym, ap, ◌∙◌}
use mathlib.Core.List.{List, [], ◌∷◌, ◌++◌}
use mathlib.Core.Bool.{Bool, true, false, not}
use mathlib.Core.Logic.{⊎_elim}
use native.Mathlib.Omega.{arith}
use lib.Dec.{eqb}
use borrow.Author.Tests.{eqb-false, ne_eqb}
use Rattle.std.specs.Prelude.{Option, Some, None}
use Rattle.lists.proofs.Cases.{eqb-cases, never, past-cond}
use Rattle.slices.specs.Bytes.{byte}
use Rattle.characters.specs.Utf8.{char_at}
use Rattle.characters.specs.Says.{all_chars, char_of, said_by, said_at, says_after, says}
use Rattle.characters.proofs.Saying.{said-some}
use Rattle.attributes.proofs.Values.{met-other}
use Rattle.trims.specs.Trim.{space, drop_lead, kept_before, drop_trail, dropped}
use Rattle.escapes.specs.Escaped.{escaped}
use Rattle.escapes.specs.Spelled.{utf8, spelled, chars_after, chars_of}
use Rattle.escapes.proofs.Spelling.{Size, one, two, three, four, size, utf8-one, utf8-two, utf8-three, utf8-four}
use Rattle.escapes.proofs.Texts.{text-spelled}
use Rattle.escapes.proofs.Promises.{says-escaped}
use Rattle.fitting.specs.Told.{has_ampersand}

pub true-false : {A : Type 0} → ◌≡◌ {A = Bool} true false → A
true-false e = never (sym e)

pub not-true : (b : Bool) → not b ≡ true → b ≡ false
not-true true h = never h
not-true false h = refl

-- ---- what stands in front

no_front : (b : ℕ) (v : List ℕ) → has_ampersand (b ∷ v) ≡ false → (eqb b (code "&") ≡ false) × (has_ampersand v ≡ false)
unfolding has_ampersand
no_front b v h = past-cond (eqb b (code "&")) (λ z. true-false z) h

-- ---- a text without `&`

said-itself : (b : ℕ) (v : List ℕ) → eqb b (code "&") ≡ false → said_at (b ∷ v) ≡ said_by (char_at (b ∷ v))
unfolding char_of byte
said-itself b v h = said-some b v ∙ ap (λ (m : _). said_by (char_of m)) (met-other (b ∷ v) (eqb-false b 0x26 h))

says-after : (v : List ℕ) (k : ℕ) → has_ampersand v ≡ false → says_after k v ≡ chars_after k v
unfolding says_after chars_after said_by
says-after [] zero h = refl
says-after [] (suc k) h = refl
says-after (b ∷ v) (suc k) h = says-after v k (no_front b v h).1
says-after (b ∷ v) zero h = by (char_at (b ∷ v)) refl (λ (k : ℕ). says-after v k (no_front b v h).1)
  where
    by : (x : Option (ℕ × ℕ)) → char_at (b ∷ v) ≡ x → ((k : ℕ) → says_after k v ≡ chars_after k v) → says_after 0 (b ∷ v) ≡ chars_after 0 (b ∷ v)
    by (Some (c, n)) g ih = rw (says_after, chars_after, said-itself b v (no_front b v h).0, g) (ap (λ (l : List ℕ). c ∷ l) (ih (pred n)))
    by None g ih = rw (says_after, chars_after, said-itself b v (no_front b v h).0, g) (ap (λ (l : List ℕ). 0 ∷ l) (ih 0))

pub plain-says : (v : List ℕ) → has_ampersand v ≡ false → says v ≡ chars_of v
unfolding says chars_of
plain-says v h = says-after v 0 h

-- so that it says the same where it is written
pub plain-escaped : (v : List ℕ) → all_chars v ≡ true → has_ampersand v ≡ false → says (escaped v) ≡ says v
plain-escaped v legal h = says-escaped v legal ∙ sym (plain-says v h)

-- ---- a text with an `&`

none-joined : (v w : List ℕ) → has_ampersand v ≡ false → has_ampersand w ≡ false → has_ampersand (v ++ w) ≡ false
unfolding has_ampersand
none-joined [] w g h = h
none-joined (b ∷ v) w g h = let z = no_front b v g in rw z.0 (none-joined v w z.1 h)

other-utf8 : (c : ℕ) → (c ≡ 0x26 → ⊥) → has_ampersand (utf8 c) ≡ false
unfolding has_ampersand
other-utf8 c n = by (size c)
  where
    high : (b : ℕ) → 0x80 ≤ b → eqb b (code "&") ≡ false
    high b l = ne_eqb b 0x26 (λ z. omega (arith, z, l))

    by : Size c → has_ampersand (utf8 c) ≡ false
    by (one l) = rw (utf8-one c l, ne_eqb c 0x26 n) refl
    by (two l m) = rw (utf8-two c l m, high (0xC0 + c / 64) (omega arith), high (0x80 + c % 64) (omega arith)) refl
    by (three l m) = rw (utf8-three c l m, high (0xE0 + c / 4096) (omega arith), high (0x80 + c / 64 % 64) (omega arith), high (0x80 + c % 64) (omega arith)) refl
    by (four l) =
        rw (utf8-four c l, high (0xF0 + c / 262144) (omega arith), high (0x80 + c / 4096 % 64) (omega arith), high (0x80 + c / 64 % 64) (omega arith), high (0x80 + c % 64) (omega arith)) refl

none-spelled : (l : List ℕ) → has_ampersand l ≡ false → has_ampersand (spelled l) ≡ false
unfolding has_ampersand spelled
none-spelled [] h = refl
none-spelled (c ∷ l) h =
    let z = no_front c l h in none-joined (utf8 c) (spelled l) (other-utf8 c (eqb-false c 0x26 z.0)) (none-spelled l z.1)

pub none-back : (v : List ℕ) → all_chars v ≡ true → has_ampersand (chars_of v) ≡ false → has_ampersand v ≡ false
none-back v legal h = ap has_ampersand (sym (text-spelled v legal)) ∙ none-spelled (chars_of v) h

-- ---- spaces that are dropped

none-lead : (l : List ℕ) → has_ampersand (drop_lead l) ≡ false → has_ampersand l ≡ false
unfolding has_ampersand drop_lead space
none-lead [] h = refl
none-lead (c ∷ l) h =
    ⊎_elim
    (λ (y : (c ≡ 0x20) × (eqb c 0x20 ≡ true)). let e = y.0 in rw (ne_eqb c 0x26 (λ z. omega (arith, e, z))) (none-lead l (rw y.1 at h)))
    (λ (y : (c ≡ 0x20 → ⊥) × (eqb c 0x20 ≡ false)). rw y.1 at h)
    (eqb-cases c 0x20)

none_kept : (c : ℕ) (l : List ℕ) → has_ampersand (kept_before c l) ≡ false → (c ≡ 0x26 → ⊥) × (has_ampersand l ≡ false)
unfolding has_ampersand kept_before space
none_kept c [] h =
    ⊎_elim
    (λ (y : (c ≡ 0x20) × (eqb c 0x20 ≡ true)). let e = y.0 in ((λ z. omega (arith, e, z)), refl))
    (λ (y : (c ≡ 0x20 → ⊥) × (eqb c 0x20 ≡ false)). (eqb-false c 0x26 (no_front c [] (rw y.1 at h)).0, refl))
    (eqb-cases c 0x20)
none_kept c (d ∷ l) h = let z = no_front c (d ∷ l) h in (eqb-false c 0x26 z.0, z.1)

none-trail : (l : List ℕ) → has_ampersand (drop_trail l) ≡ false → has_ampersand l ≡ false
unfolding has_ampersand drop_trail
none-trail [] h = refl
none-trail (c ∷ l) h = let z = none_kept c (drop_trail l) h in rw (ne_eqb c 0x26 z.0) (none-trail l z.1)

pub none_dropped : (l : List ℕ) → has_ampersand (dropped l) ≡ false → has_ampersand l ≡ false
unfolding dropped
none_dropped l h = none-lead l (none-trail (drop_lead l) h)
