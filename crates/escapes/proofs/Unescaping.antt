-- Unescaped values, character by character: what a value says is XML characters, or 0 for a byte that says none, and takes no more bytes than the value has.
-- Assumes nothing.
use Prim.Native.Nat.{ℕ, zero, suc, pred, ◌+◌, ◌-◌, ◌≤◌, ◌<◌, min}
use mathlib.Core.Path.{◌≡◌, refl, sym, ap, ◌∙◌}
use mathlib.Core.List.{List, [], ◌∷◌}
use mathlib.Core.Bool.{true, false}
use mathlib.Core.Logic.{⊎_elim}
use native.Mathlib.Omega.{arith}
use lib.ListN.{length, take, drop, length-append, length-take, length-drop}
use lib.Seq.{sets}
use borrow.Rule.Slice.PartMut.{mid_of, put_mid}
use Rattle.std.specs.Prelude.{Option, Some, None}
use Rattle.lists.proofs.Cases.{bool_cases, zero-not-one}
use Rattle.lists.proofs.Loans.{rest_part}
use Rattle.characters.specs.References.{within, xml_char, char_by, reference_at}
use Rattle.characters.specs.Says.{met, char_of, said_at, says_after, says}
use Rattle.characters.proofs.Low.{char-inside}
use Rattle.characters.proofs.Units.{not-some, pair-parts, Referred, hex, dec, amp, lt, gt, quot, apos, referred-is, Unit', stands, refers, unit-is}
use Rattle.characters.proofs.Saying.{said-char, said-over, said-end, said-not-over, Uttered, unit, stray, uttered, said-some-bytes, said-inside}
use Rattle.escapes.specs.Spelled.{utf8, spelled, unescaped}
use Rattle.escapes.proofs.Putting.{Put, put-piece, put-end}
use Rattle.escapes.proofs.Spelling.{char-spelt, char-xml, xml-most, utf8-few}

-- ---- what a unit says

char-by : (k c n : ℕ) → char_by k n ≡ Some (c, n) → xml_char c ≡ true
unfolding char_by
char-by k c n e =
    ⊎_elim
    (λ (t : xml_char k ≡ true). let g : k ≡ c = (pair-parts (rw t at e)).0 in rw (← g) t)
    (λ (t : xml_char k ≡ false). absurd (not-some (rw t at e)))
    (bool_cases (xml_char k))

module _ (s : List ℕ) {c n : ℕ} (e : reference_at s ≡ Some (c, n)) where
  reference-xml : xml_char c ≡ true
  unfolding xml_char within
  reference-xml = by (referred-is s e)
    where
      by : Referred s c n → xml_char c ≡ true
      by (hex b w) = char-by _ c n w.char
      by (dec a b w) = char-by _ c n w.char
      by (amp w) = rw (← w.char)
      by (lt w) = rw (← w.char)
      by (gt w) = rw (← w.char)
      by (quot w) = rw (← w.char)
      by (apos w) = rw (← w.char)

  reference-long : 4 ≤ n
  reference-long = by (referred-is s e)
    where
      by : Referred s c n → 4 ≤ n
      by (hex b w) = omega (arith, w.long)
      by (dec a b w) = let some = w.some in omega (arith, w.long, some)
      by (amp w) = omega (arith, w.long)
      by (lt w) = omega (arith, w.long)
      by (gt w) = omega (arith, w.long)
      by (quot w) = omega (arith, w.long)
      by (apos w) = omega (arith, w.long)

module _ (s : List ℕ) {c n : ℕ} (e : char_of (met s) ≡ Some (c, n)) where
  pub unit-xml : xml_char c ≡ true
  unit-xml = by (unit-is s e)
    where
      by : Unit' s c n → xml_char c ≡ true
      by (stands a q) = char-xml s q
      by (refers a q) = reference-xml s q

  unit-long : length (utf8 c) ≤ n
  unit-long = by (unit-is s e)
    where
      by : Unit' s c n → length (utf8 c) ≤ n
      by (stands a q) = omega (arith, ap length (char-spelt s q), length-take n s, char-inside s q)
      by (refers a q) = omega (arith, utf8-few c, reference-long s q)

module _ (v : List ℕ) (some : 0 < length v) {c n : ℕ} (e : said_at v ≡ Some (c, n)) where
  said-below : c < 0x110000
  said-below = by (uttered v some e)
    where
      by : Uttered v c n → c < 0x110000
      by (unit q) = xml-most c (unit-xml v q)
      by (stray q z o) = omega (arith, z)

  said-long : length (utf8 c) ≤ n
  unfolding utf8
  said-long = by (uttered v some e)
    where
      by : Uttered v c n → length (utf8 c) ≤ n
      by (unit q) = unit-long v q
      by (stray q z o) = rw (z, o) (omega arith)

-- ---- no more bytes than the value has

most-after : (v : List ℕ) (k : ℕ) → k ≤ length v → length (spelled (says_after k v)) + k ≤ length v
unfolding says_after spelled
most-after [] k h = omega arith
most-after (b ∷ v) (suc k) h = let r = most-after v k (omega arith) in omega arith
most-after (b ∷ v) zero h = by (said_at (b ∷ v)) refl (most-after v)
  where
    by : (x : Option (ℕ × ℕ)) → said_at (b ∷ v) ≡ x → ((k : ℕ) → k ≤ length v → length (spelled (says_after k v)) + k ≤ length v)
        → length (spelled (says_after zero (b ∷ v))) + 0 ≤ suc (length v)
    by None g f = absurd (said-not-over (b ∷ v) (omega arith) g)
    by (Some (c, n)) g f =
        let some = said-some-bytes (b ∷ v) (omega arith) g in
        let inside = said-inside (b ∷ v) (omega arith) g in
        let long = said-long (b ∷ v) (omega arith) g in
        let r = f (pred n) (omega arith) in
        rw (says_after, g) (omega (arith, length-append (utf8 c) (spelled (says_after (pred n) v)), r, long, some))

pub unescaped-most : (v : List ℕ) → length (unescaped v) ≤ length v
unfolding unescaped says
unescaped-most v = let r = most-after v 0 (omega arith) in omega arith

-- ---- the loop

-- x is what the call of `said_at` on `&v[i..]` answered
module _ (v b₀ b : List ℕ) (at i : ℕ) (p : Put (unescaped v) b₀ b at (unescaped (drop i v))) where
  module _ (h : i < length v) {x : Option (ℕ × ℕ)} (e : x ≡ said_at (take (length v - i) (drop i v))) {c n : ℕ} (q : x ≡ Some (c, n)) where
    there : 0 < length (take (length v - i) (drop i v))
    there = rw (rest_part i v, length-drop) (omega arith)

    pub unescaped-below : c < 0x110000
    unescaped-below = said-below (take (length v - i) (drop i v)) there (sym e ∙ q)

    pub unescaped-more : 1 ≤ n → (from k : ℕ) (l : List ℕ) → from ≡ min at (length b) → k ≡ length (utf8 c) → l ≡ sets (mid_of from (length b - from) b) 0 (utf8 c)
        → Put (unescaped v) b₀ (put_mid from (length b - from) b l) (at + k) (unescaped (drop (i + n) v))
    unfolding unescaped spelled
    unescaped-more m from k l ef ek el = put-piece p (utf8 c) (ap spelled (said-char v i e h q m)) ef ek el

  pub unescaped-over : {x : Option (ℕ × ℕ)} → x ≡ said_at (take (length v - i) (drop i v)) → x ≡ None → (at ≡ length (unescaped v)) × (b ≡ sets b₀ 0 (unescaped v))
  unfolding unescaped spelled
  unescaped-over e q = put-end p (ap spelled (said-over v i e q))

  pub unescaped-end : length v ≤ i → (at ≡ length (unescaped v)) × (b ≡ sets b₀ 0 (unescaped v))
  unfolding unescaped spelled
  unescaped-end h = put-end p (ap spelled (said-end v i h))
