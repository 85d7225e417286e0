-- A text of XML characters is the spelling of its characters, and the spelling of XML characters is a text of them. Assumes nothing.
use Prim.Native.Nat.{ℕ, zero, suc, ◌≤◌}
use mathlib.Core.Path.{◌≡◌, refl, ap, ◌∙◌}
use mathlib.Core.List.{List, [], ◌∷◌, ◌++◌}
use mathlib.Core.Bool.{Bool, true}
use native.Mathlib.Omega.{arith}
use lib.ListN.{length, drop, take-append-drop, length-append}
use lib.Seq.{drop_at}
use Rattle.std.specs.Prelude.{Option, Some, None}
use Rattle.lists.proofs.Cases.{never}
use Rattle.slices.specs.Walk.{WalkStep, go, walk}
use Rattle.characters.specs.Utf8.{char_at}
use Rattle.characters.specs.References.{xml_char}
use Rattle.characters.specs.Says.{char_next, chars_over, all_chars, met, char_of, said_by, says}
use Rattle.characters.proofs.Low.{char-size}
use Rattle.characters.proofs.Saying.{says-char, said-by}
use Rattle.escapes.specs.Spelled.{utf8, spelled, chars_after, chars_of}
use Rattle.escapes.proofs.Spelling.{char-spelt, char-xml, utf8-read, utf8-some}

-- each is an XML character
unfoldable pub Xml : List ℕ → Type 0
Xml [] = Unit {0}
Xml (c ∷ l) = (xml_char c ≡ true) × Xml l

-- ---- a piece that one step takes

module _ {A S R : Type 0} (look : List ℕ → A) (then : S → A → WalkStep S R) (over : S → R) where
  pass : (e s : List ℕ) (st : S) → walk look then over st (length e) (e ++ s) ≡ walk look then over st 0 s
  unfolding walk
  pass [] s st = refl
  pass (b ∷ e) s st = pass e s st

  pub walk-piece : (e s : List ℕ) (st st' : S) → 1 ≤ length e → then st (look (e ++ s)) ≡ go (length e) st'
      → walk look then over st 0 (e ++ s) ≡ walk look then over st' 0 s
  unfolding walk
  walk-piece [] s st st' h q = absurd (omega arith)
  walk-piece (b ∷ e) s st st' h q = rw (walk, q) (pass e s st')

chars-pass : (e s : List ℕ) → chars_after (length e) (e ++ s) ≡ chars_after 0 s
unfolding chars_after
chars-pass [] s = refl
chars-pass (b ∷ e) s = chars-pass e s

chars-piece : (e s : List ℕ) (c : ℕ) → 1 ≤ length e → char_at (e ++ s) ≡ Some (c, length e) → chars_of (e ++ s) ≡ c ∷ chars_of s
unfolding chars_of chars_after
chars-piece [] s c h q = absurd (omega arith)
chars-piece (b ∷ e) s c h q = rw (chars_after, q) (ap (λ (l : List ℕ). c ∷ l) (chars-pass e s))

pub says-piece : (e s : List ℕ) (c : ℕ) → 1 ≤ length e → char_of (met (e ++ s)) ≡ Some (c, length e) → says (e ++ s) ≡ c ∷ says s
unfolding said_by
says-piece e s c h q =
    let some = length-append e s in
    says-char (e ++ s) c (length e) (omega arith) (said-by (e ++ s) (omega arith) ∙ ap said_by q) h ∙ ap (λ (l : List ℕ). c ∷ says l) (drop_at e s (length e) refl)

-- ---- from characters to bytes and back

pub spelled-chars : (l : List ℕ) → Xml l → chars_of (spelled l) ≡ l
unfolding Xml spelled chars_of chars_after
spelled-chars [] x = refl
spelled-chars (c ∷ l) x =
    chars-piece (utf8 c) (spelled l) c (utf8-some c) (utf8-read c (spelled l) x.0) ∙ ap (λ (k : List ℕ). c ∷ k) (spelled-chars l x.1)

pub spelled-all : (l : List ℕ) → Xml l → all_chars (spelled l) ≡ true
unfolding Xml spelled all_chars walk char_next chars_over
spelled-all [] x = refl
spelled-all (c ∷ l) x =
    walk-piece char_at char_next chars_over (utf8 c) (spelled l) tt tt (utf8-some c) (ap (char_next tt) (utf8-read c (spelled l) x.0)) ∙ spelled-all l x.1

-- ---- from bytes to characters and back

abbrev chars_from : ℕ → List ℕ → Bool
chars_from k v = walk char_at char_next chars_over tt k v

-- the characters from k on are XML characters, and their spelling is what is left
pub record Spelt (k : ℕ) (v : List ℕ) : Type 0 where
  pub xml : Xml (chars_after k v)
  pub bytes : spelled (chars_after k v) ≡ drop k v

spelt-after : (v : List ℕ) (k : ℕ) → chars_from k v ≡ true → Spelt k v
unfolding walk char_next chars_after spelled Xml
spelt-after [] zero h = record { xml = tt; bytes = refl }
spelt-after [] (suc k) h = record { xml = tt; bytes = refl }
spelt-after (b ∷ v) (suc k) h = let r = spelt-after v k h in record { xml = r.xml; bytes = r.bytes }
spelt-after (b ∷ v) zero h = by (char_at (b ∷ v)) refl (spelt-after v)
  where
    by : (x : Option (ℕ × ℕ)) → char_at (b ∷ v) ≡ x → ((k : ℕ) → chars_from k v ≡ true → Spelt k v) → Spelt zero (b ∷ v)
    by None g f = never (rw (walk, g) at h)
    by (Some (c, zero)) g f = let z = char-size (b ∷ v) g in absurd (omega arith)
    by (Some (c, suc n)) g f =
        let r = f n (rw (walk, g) at h) in
        record {
          xml = rw (chars_after, g) (char-xml (b ∷ v) g, r.xml);
          bytes = rw (chars_after, g) (rw (← char-spelt (b ∷ v) g, r.bytes) (take-append-drop (suc n) (b ∷ v)));
        }

module _ (v : List ℕ) (h : all_chars v ≡ true) where
  spelt : Spelt 0 v
  unfolding all_chars
  spelt = spelt-after v 0 h

  pub text-xml : Xml (chars_of v)
  unfolding chars_of
  text-xml = spelt.xml

  pub text-spelled : spelled (chars_of v) ≡ v
  unfolding chars_of
  text-spelled = spelt.bytes
