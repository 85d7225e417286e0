-- An escaped text, character by character: each is met as a reference that names it, or as itself where it may stand between double quotes.
-- Assumes nothing.
use Prim.Native.Nat.{ℕ, ◌+◌, ◌≤◌, ◌<◌}
use mathlib.Core.Path.{◌≡◌, refl, ap, ◌∙◌}
use mathlib.Core.List.{List, [], ◌∷◌, ◌++◌, append-nil, append_assoc}
use mathlib.Core.Bool.{true}
use mathlib.Core.Logic.{⊎_elim}
use native.Mathlib.Omega.{arith}
use lib.ListN.{length, length-append}
use borrow.Author.Tests.{ne_eqb}
use Rattle.std.specs.Prelude.{Some}
use Rattle.lists.proofs.Cases.{eqb-cases, ltb-cases}
use Rattle.slices.specs.Bytes.{byte}
use Rattle.slices.specs.Part.{part_of}
use Rattle.slices.specs.Run.{run}
use Rattle.slices.specs.Same.{same, begins}
use Rattle.slices.specs.Text.{text}
use Rattle.slices.specs.Walk.{go, stop, walk}
use Rattle.characters.specs.References.{xml_char, digit, ref_digit, base, digit_value, number_by, char_by, numbered_to, numbered_at, named_at, reference_at}
use Rattle.characters.specs.Says.{referred, standing, met, char_of, says}
use Rattle.characters.proofs.Saying.{says_none}
use Rattle.attributes.specs.Attribute.{fit, standing_next, referred_next, value_next, value_over, plain}
use Rattle.attributes.proofs.Values.{met-other, fit-other, plain_step}
use Rattle.escapes.specs.Escaped.{escaped_byte, escaped}
use Rattle.escapes.specs.Spelled.{utf8, spelled}
use Rattle.escapes.proofs.Escaping.{Plain, plain_byte, needed, escaped-none, escaped-append, escaped-least}
use Rattle.escapes.proofs.Spelling.{XmlRange, tab, lf, cr, before, behind, past, xml-range, Size, one, two, three, four, size, utf8-one, utf8-two, utf8-three, utf8-four, utf8-read, utf8-some}
use Rattle.escapes.proofs.Texts.{Xml, walk-piece, says-piece}

-- e in front of s is met as c, all of e
data Stands (c : ℕ) (e s : List ℕ) : Type 0 where
  refers : met (e ++ s) ≡ referred (Some (c, length e)) → Stands c e s
  stays : met (e ++ s) ≡ standing (Some (c, length e)) → fit c ≡ true → (c ≡ 0x22 → ⊥) → Stands c e s

-- ---- the six

module _ (s : List ℕ) where
  amp : Stands 0x26 (text "&amp;") s
  unfolding met byte reference_at named_at begins same
  amp = refers refl

  lt : Stands 0x3C (text "&lt;") s
  unfolding met byte reference_at named_at begins same
  lt = refers refl

  quot : Stands 0x22 (text "&quot;") s
  unfolding met byte reference_at named_at begins same
  quot = refers refl

  nine : Stands 0x9 (text "&#9;") s
  unfolding met byte reference_at begins same numbered_at numbered_to run ref_digit digit part_of number_by base digit_value char_by xml_char
  nine = refers refl

  ten : Stands 0xA (text "&#10;") s
  unfolding met byte reference_at begins same numbered_at numbered_to run ref_digit digit part_of number_by base digit_value char_by xml_char
  ten = refers refl

  thirteen : Stands 0xD (text "&#13;") s
  unfolding met byte reference_at begins same numbered_at numbered_to run ref_digit digit part_of number_by base digit_value char_by xml_char
  thirteen = refers refl

-- ---- any other

-- a byte from 3D on needs none
high_byte : (b : ℕ) → 0x3D ≤ b → escaped_byte b ≡ b ∷ []
high_byte b h =
    plain_byte (record { amp = λ e. omega arith; lt = λ e. omega arith; quot = λ e. omega arith; tab = λ e. omega arith; lf = λ e. omega arith; cr = λ e. omega arith })

escaped-two : (a b : ℕ) → 0x3D ≤ a → 0x3D ≤ b → escaped (a ∷ b ∷ []) ≡ a ∷ b ∷ []
unfolding escaped
escaped-two a b p q = rw (high_byte a p, high_byte b q)

escaped-three : (a b c : ℕ) → 0x3D ≤ a → 0x3D ≤ b → 0x3D ≤ c → escaped (a ∷ b ∷ c ∷ []) ≡ a ∷ b ∷ c ∷ []
unfolding escaped
escaped-three a b c p q r = rw (high_byte a p, high_byte b q, high_byte c r)

escaped-four : (a b c d : ℕ) → 0x3D ≤ a → 0x3D ≤ b → 0x3D ≤ c → 0x3D ≤ d → escaped (a ∷ b ∷ c ∷ d ∷ []) ≡ a ∷ b ∷ c ∷ d ∷ []
unfolding escaped
escaped-four a b c d p q r s = rw (high_byte a p, high_byte b q, high_byte c r, high_byte d s)

module _ (c : ℕ) where
  -- a character of several bytes needs none, and does not begin with `&`
  escaped-long : 0x80 ≤ c → escaped (utf8 c) ≡ utf8 c
  escaped-long h = by (size c)
    where
      by : Size c → escaped (utf8 c) ≡ utf8 c
      by (one l) = absurd (omega arith)
      by (two l m) = rw (utf8-two c l m) (escaped-two _ _ (omega arith) (omega arith))
      by (three l m) = rw (utf8-three c l m) (escaped-three _ _ _ (omega arith) (omega arith) (omega arith))
      by (four l) = rw (utf8-four c l) (escaped-four _ _ _ _ (omega arith) (omega arith) (omega arith) (omega arith))

  long-other : 0x80 ≤ c → (s : List ℕ) → byte (utf8 c ++ s) 0 ≡ 0x26 → ⊥
  unfolding byte
  long-other h s = by (size c)
    where
      by : Size c → byte (utf8 c ++ s) 0 ≡ 0x26 → ⊥
      by (one l) = absurd (omega arith)
      by (two l m) = rw (utf8-two c l m) (λ e. omega arith)
      by (three l m) = rw (utf8-three c l m) (λ e. omega arith)
      by (four l) = rw (utf8-four c l) (λ e. omega arith)

  escaped-short : c < 0x80 → escaped (utf8 c) ≡ escaped_byte c
  unfolding escaped
  escaped-short h = rw (utf8-one c h) (append-nil (escaped_byte c))

  -- an XML character that needs no reference is from 20 on
  plain-least : xml_char c ≡ true → Plain c → 0x20 ≤ c
  plain-least e p = by (xml-range c e)
    where
      by : XmlRange c → 0x20 ≤ c
      by (tab q) = absurd (p.tab q)
      by (lf q) = absurd (p.lf q)
      by (cr q) = absurd (p.cr q)
      by (before l h) = l
      by (behind l h) = omega arith
      by (past l h) = omega arith

  plain-stands : xml_char c ≡ true → Plain c → (s : List ℕ) → (byte (utf8 c ++ s) 0 ≡ 0x26 → ⊥) → Stands c (utf8 c) s
  plain-stands e p s h = stays (met-other (utf8 c ++ s) h ∙ ap standing (utf8-read c s e)) (fit-other c (plain-least e p) p.lt) p.quot

  long-stands : xml_char c ≡ true → 0x80 ≤ c → (s : List ℕ) → Stands c (escaped (utf8 c)) s
  long-stands e h s =
      rw (escaped-long h)
      (plain-stands e
      (record { amp = λ q. omega arith; lt = λ q. omega arith; quot = λ q. omega arith; tab = λ q. omega arith; lf = λ q. omega arith; cr = λ q. omega arith })
      s (long-other h s))

  short-stands : xml_char c ≡ true → c < 0x80 → Plain c → (s : List ℕ) → Stands c (escaped_byte c) s
  unfolding byte
  short-stands e h p s = rw (plain_byte p, ← utf8-one c h) (plain-stands e p s (rw (utf8-one c h) p.amp))

short-escaped : (c : ℕ) → xml_char c ≡ true → c < 0x80 → (s : List ℕ) → Stands c (escaped_byte c) s
short-escaped c e h s =
    ⊎_elim (λ y. rw (y.0, needed.0) (amp s))
    (λ n₁. ⊎_elim (λ y. rw (y.0, needed.1) (lt s))
    (λ n₂. ⊎_elim (λ y. rw (y.0, needed.2) (quot s))
    (λ n₃. ⊎_elim (λ y. rw (y.0, needed.3) (nine s))
    (λ n₄. ⊎_elim (λ y. rw (y.0, needed.4) (ten s))
    (λ n₅. ⊎_elim (λ y. rw (y.0, needed.5) (thirteen s))
    (λ n₆. short-stands c e h (record { amp = n₁.0; lt = n₂.0; quot = n₃.0; tab = n₄.0; lf = n₅.0; cr = n₆.0 }) s)
    (eqb-cases c 0xD))
    (eqb-cases c 0xA))
    (eqb-cases c 0x9))
    (eqb-cases c 0x22))
    (eqb-cases c 0x3C))
    (eqb-cases c 0x26)

escaped-stands : (c : ℕ) → xml_char c ≡ true → (s : List ℕ) → Stands c (escaped (utf8 c)) s
escaped-stands c e s =
    ⊎_elim (λ y. rw (escaped-short c y.0) (short-escaped c e y.0 s)) (λ y. long-stands c e y.0 s) (ltb-cases c 0x80)

-- ---- all of them

stands_char : {c : ℕ} {e s : List ℕ} → Stands c e s → char_of (met (e ++ s)) ≡ Some (c, length e)
unfolding char_of
stands_char (refers q) = ap char_of q
stands_char (stays q f n) = ap char_of q

stands-next : {c : ℕ} {e s : List ℕ} → Stands c e s → (at : ℕ) → value_next 0x22 at (met (e ++ s)) ≡ go (length e) (at + length e)
unfolding value_next referred_next standing_next
stands-next (refers q) at = ap (value_next 0x22 at) q
stands-next {c} (stays q f n) at = ap (value_next 0x22 at) q ∙ rw (f, ne_eqb c 0x22 n)

char-some : (c : ℕ) → 1 ≤ length (escaped (utf8 c))
char-some c = let l = escaped-least (utf8 c) in let m = utf8-some c in omega arith

pub escaped-says : (l : List ℕ) → Xml l → says (escaped (spelled l)) ≡ l
unfolding Xml spelled
escaped-says [] x = ap says escaped-none ∙ says_none
escaped-says (c ∷ l) x =
    ap says (escaped-append (utf8 c) (spelled l))
    ∙ says-piece (escaped (utf8 c)) (escaped (spelled l)) c (char-some c) (stands_char (escaped-stands c x.0 (escaped (spelled l))))
    ∙ ap (λ (k : List ℕ). c ∷ k) (escaped-says l x.1)

quote-plain : plain 0x22 ≡ true
unfolding plain
quote-plain = refl

-- the closing quote
closed : (at : ℕ) (r : List ℕ) → walk met (value_next 0x22) value_over at 0 (0x22 ∷ r) ≡ Some at
unfolding walk byte
closed at r = let step : value_next 0x22 at (met (0x22 ∷ r)) ≡ stop (Some at) = plain_step 0x22 at (0x22 ∷ r) quote-plain in rw (walk, step)

pub escaped-value : (l r : List ℕ) (at : ℕ) → Xml l → walk met (value_next 0x22) value_over at 0 (escaped (spelled l) ++ 0x22 ∷ r) ≡ Some (at + length (escaped (spelled l)))
unfolding Xml spelled
escaped-value [] r at x = rw escaped-none (closed at r ∙ ap Some (omega arith))
escaped-value (c ∷ l) r at x =
    let e = escaped (utf8 c) in
    let s = escaped (spelled l) in
    let long : at + length e + length s ≡ at + length (escaped (utf8 c ++ spelled l)) =
    omega (arith, ap length (escaped-append (utf8 c) (spelled l)), length-append e s) in
    ap (λ (t : List ℕ). walk met (value_next 0x22) value_over at 0 (t ++ 0x22 ∷ r)) (escaped-append (utf8 c) (spelled l))
    ∙ ap (walk met (value_next 0x22) value_over at 0) (append_assoc e s (0x22 ∷ r))
    ∙ walk-piece met (value_next 0x22) value_over e (s ++ 0x22 ∷ r) at (at + length e) (char-some c) (stands-next (escaped-stands c x.0 (s ++ 0x22 ∷ r)) at)
    ∙ escaped-value l r (at + length e) x.1
    ∙ ap Some long
