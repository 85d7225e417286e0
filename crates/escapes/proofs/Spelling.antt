-- UTF-8 both ways: the bytes of a character are its spelling, so a character has one spelling, and the spelling of an XML character is read as that character.
-- Assumes nothing.
use Prim.Native.Nat.{ℕ, zero, suc, ◌+◌, ◌*◌, ◌/◌, ◌%◌, ◌≤◌, ◌<◌}
use mathlib.Core.Path.{◌≡◌, refl, sym, ◌∙◌}
use mathlib.Core.List.{List, [], ◌∷◌, ◌++◌}
use mathlib.Core.Bool.{Bool, true, false, cond}
use mathlib.Core.Logic.{◌⊎◌, inl, inr, ⊎_elim}
use native.Mathlib.Omega.{arith}
use lib.Dec.{leb, eqb}
use lib.ListN.{length, take}
use borrow.Author.Tests.{lt-ltb, le-ltb, le-leb, lt-leb, leb-true, leb-false, eq-eqb, eqb-true}
use Rattle.std.specs.Prelude.{Option, Some, None}
use Rattle.lists.proofs.Cases.{by_cond, both_true, eqb-cases, ltb-cases, leb-cases, never}
use Rattle.slices.specs.Bytes.{byte}
use Rattle.slices.proofs.Near.{take-front}
use Rattle.characters.specs.Utf8.{seq_len, low, high, second, later_byte, control, nonchar, single, double, triple, fourfold, char_at}
use Rattle.characters.specs.References.{within, xml_char}
use Rattle.characters.proofs.Ascii.{low-ascii, char-ascii}
use Rattle.characters.proofs.Low.{by-test, char-inside}
use Rattle.escapes.specs.Spelled.{utf8}

-- ---- XML characters, by ranges

-- a chain of tests of which one passes
or_later : (t : Bool) {b : Bool} → b ≡ true → cond t true b ≡ true
or_later true e = refl
or_later false e = e

either : (t : Bool) {b : Bool} → cond t true b ≡ true → (t ≡ true) ⊎ (b ≡ true)
either true e = inl refl
either false e = inr e

within_in : (l h c : ℕ) → l ≤ c → c ≤ h → within l h c ≡ true
unfolding within
within_in l h c p q = rw (le-leb l c p, le-leb c h q)

within-range : (l h c : ℕ) → within l h c ≡ true → (l ≤ c) × (c ≤ h)
unfolding within
within-range l h c e = let p = both_true (leb l c) e in (leb-true l c p.0, leb-true c h p.1)

pub data XmlRange (c : ℕ) : Type 0 where
  tab : c ≡ 0x9 → XmlRange c
  lf : c ≡ 0xA → XmlRange c
  cr : c ≡ 0xD → XmlRange c
  before : 0x20 ≤ c → c ≤ 0xD7FF → XmlRange c
  behind : 0xE000 ≤ c → c ≤ 0xFFFD → XmlRange c
  past : 0x10000 ≤ c → c ≤ 0x10FFFF → XmlRange c

pub xml-range : (c : ℕ) → xml_char c ≡ true → XmlRange c
unfolding xml_char
xml-range c e =
    ⊎_elim (λ y. tab (eqb-true c 0x9 y))
    (λ e₁. ⊎_elim (λ y. lf (eqb-true c 0xA y))
    (λ e₂. ⊎_elim (λ y. cr (eqb-true c 0xD y))
    (λ e₃. ⊎_elim (λ y. let r = within-range 0x20 0xD7FF c y in before r.0 r.1)
    (λ e₄. ⊎_elim (λ y. let r = within-range 0xE000 0xFFFD c y in behind r.0 r.1)
    (λ y. let r = within-range 0x10000 0x10FFFF c y in past r.0 r.1)
    (either (within 0xE000 0xFFFD c) e₄))
    (either (within 0x20 0xD7FF c) e₃))
    (either (eqb c 0xD) e₂))
    (either (eqb c 0xA) e₁))
    (either (eqb c 0x9) e)

pub xml-is : (c : ℕ) → XmlRange c → xml_char c ≡ true
unfolding xml_char
xml-is c (tab e) = rw (eq-eqb c 0x9 e)
xml-is c (lf e) = or_later (eqb c 0x9) (rw (eq-eqb c 0xA e))
xml-is c (cr e) = or_later (eqb c 0x9) (or_later (eqb c 0xA) (rw (eq-eqb c 0xD e)))
xml-is c (before l h) = or_later (eqb c 0x9) (or_later (eqb c 0xA) (or_later (eqb c 0xD) (rw (within_in 0x20 0xD7FF c l h))))
xml-is c (behind l h) =
    or_later (eqb c 0x9) (or_later (eqb c 0xA) (or_later (eqb c 0xD) (or_later (within 0x20 0xD7FF c) (rw (within_in 0xE000 0xFFFD c l h)))))
xml-is c (past l h) =
    or_later (eqb c 0x9)
    (or_later (eqb c 0xA) (or_later (eqb c 0xD) (or_later (within 0x20 0xD7FF c) (or_later (within 0xE000 0xFFFD c) (within_in 0x10000 0x10FFFF c l h)))))

pub xml-most : (c : ℕ) → xml_char c ≡ true → c < 0x110000
xml-most c e = by (xml-range c e)
  where
    by : XmlRange c → c < 0x110000
    by (tab q) = omega (arith, q)
    by (lf q) = omega (arith, q)
    by (cr q) = omega (arith, q)
    by (before l h) = omega (arith, h)
    by (behind l h) = omega (arith, h)
    by (past l h) = omega (arith, h)

-- below 80 they are those that `control` leaves
low-control : (c : ℕ) → c < 0x80 → XmlRange c → control c ≡ false
unfolding control
low-control c h (tab e) = rw e
low-control c h (lf e) = rw e
low-control c h (cr e) = rw e
low-control c h (before l m) = rw (le-leb 0x20 c l)
low-control c h (behind l m) = absurd (omega arith)
low-control c h (past l m) = absurd (omega arith)

control-low : (c : ℕ) → c < 0x80 → control c ≡ false → XmlRange c
unfolding control
control-low c h e =
    ⊎_elim (λ y. before y.0 (omega arith))
    (λ y. ⊎_elim (λ z. tab z.0)
    (λ z. ⊎_elim (λ u. lf u.0)
    (λ u. ⊎_elim (λ w. cr w.0) (λ w. never (sym (simp (y.1, z.1, u.1, w.1) at e))) (eqb-cases c 0xD))
    (eqb-cases c 0xA))
    (eqb-cases c 0x9))
    (leb-cases 0x20 c)

-- ---- from bytes to the character: the bytes at the front are its spelling

-- a lead byte, by the length that it tells
data Lead (a : ℕ) : ℕ → Type 0 where
  one : a ≤ 0x7F → Lead a 1
  two : 0xC2 ≤ a → a ≤ 0xDF → Lead a 2
  three : 0xE0 ≤ a → a ≤ 0xEF → Lead a 3
  four : 0xF0 ≤ a → a ≤ 0xF4 → Lead a 4
  none : Lead a 0

lead : (a : ℕ) → Lead a (seq_len a)
unfolding seq_len
lead a =
    by-test (Lead a) (leb a 0x7F) (λ e. one (leb-true _ _ e))
    (λ n₁. by-test (Lead a) (leb a 0xC1) (λ e. none)
    (λ n₂. by-test (Lead a) (leb a 0xDF) (λ e. two (leb-false a 0xC1 n₂) (leb-true _ _ e))
    (λ n₃. by-test (Lead a) (leb a 0xEF) (λ e. three (leb-false a 0xDF n₃) (leb-true _ _ e))
    (λ n₄. by-test (Lead a) (leb a 0xF4) (λ e. four (leb-false a 0xEF n₄) (leb-true _ _ e)) (λ n₅. none)))))

later-range : (b : ℕ) → later_byte b ≡ true → (0x80 ≤ b) × (b ≤ 0xBF)
unfolding later_byte
later-range b e = let p = both_true (leb 0x80 b) e in (leb-true _ _ p.0, leb-true _ _ p.1)

-- a second byte; behind E0 and F0 it is so high that no shorter spelling has the same number, behind ED and F4 so low that the number is a character's
record Second (a b : ℕ) : Type 0 where
  least : 0x80 ≤ b
  most : b ≤ 0xBF
  after-E0 : a ≡ 0xE0 → 0xA0 ≤ b
  after-F0 : a ≡ 0xF0 → 0x90 ≤ b
  after-ED : a ≡ 0xED → b ≤ 0x9F
  after-F4 : a ≡ 0xF4 → b ≤ 0x8F

second_is : (a b : ℕ) → second a b ≡ true → Second a b
unfolding second low high
second_is a b e =
    let p = both_true (leb (low a) b) e in
    let l = leb-true (low a) b p.0 in
    let h = leb-true b (high a) p.1 in
    let m : high a ≤ 0xBF = by_cond (λ (n : ℕ). n ≤ 0xBF) (eqb a 0xED) (omega arith) (by_cond (λ (n : ℕ). n ≤ 0xBF) (eqb a 0xF4) (omega arith) (omega arith)) in
    record {
      least = omega (arith, l, low-ascii a);
      most = omega (arith, h, m);
      after-E0 = λ z. rw z at l;
      after-F0 = λ z. rw z at l;
      after-ED = λ z. rw z at h;
      after-F4 = λ z. rw z at h;
    }

nonchar-not : (a b c : ℕ) → nonchar a b c ≡ false → a ≡ 0xEF → b ≡ 0xBF → c < 0xBE
unfolding nonchar
nonchar-not a b c e p q = leb-false 0xBE c (rw (p, q) at e)

module _ (a b c d : ℕ) where
  -- the first of these bytes are the spelling of an XML character
  abbrev Spelt : Option (ℕ × ℕ) → Type 0
  Spelt (Some (k, n)) = (n ≤ 4) × (take n (a ∷ b ∷ c ∷ d ∷ []) ≡ utf8 k) × XmlRange k
  Spelt None = Unit {0}

  spelt-one : a ≤ 0x7F → control a ≡ false → Spelt (Some (a, 1))
  unfolding utf8
  spelt-one l e = (omega arith, rw (lt-ltb a 0x80 (omega arith)), control-low a (omega arith) e)

  spelt-two : 0xC2 ≤ a → a ≤ 0xDF → Second a b → Spelt (Some (a % 32 * 64 + b % 64, 2))
  unfolding utf8
  spelt-two l h s =
      let k = a % 32 * 64 + b % 64 in
      let x : 0xC0 + k / 64 ≡ a = omega (arith, s.least, s.most) in
      let y : 0x80 + k % 64 ≡ b = omega (arith, s.least, s.most) in
      let few : k < 0x800 = omega (arith, s.least, s.most) in
      let many : 0x80 ≤ k = omega (arith, s.least, s.most) in
      (omega arith, rw (le-ltb k 0x80 many, lt-ltb k 0x800 few, x, y), before (omega arith) (omega arith))

  -- neither a surrogate, nor FFFE or FFFF
  three-range : 0xE0 ≤ a → a ≤ 0xEF → Second a b → (0x80 ≤ c) × (c ≤ 0xBF) → nonchar a b c ≡ false → XmlRange (a % 16 * 4096 + b % 64 * 64 + c % 64)
  three-range l h s t e =
      ⊎_elim
      (λ y. before (⊎_elim (λ z. omega (arith, z.0, s.after-E0 z.0, s.most)) (λ z. omega (arith, z.0)) (eqb-cases a 0xE0)) (omega (arith, y.0, s.least, s.most)))
      (λ y.
      ⊎_elim
      (λ z. before (omega (arith, z.0)) (omega (arith, z.0, s.after-ED z.0, s.least)))
      (λ z.
      behind (omega (arith, y.0, z.0))
      (⊎_elim
      (λ u. ⊎_elim (λ v. omega (arith, u.0, v.0, nonchar-not a b c e u.0 v.0)) (λ v. omega (arith, u.0, v.0, s.least, s.most)) (eqb-cases b 0xBF))
      (λ u. omega (arith, u.0, s.least, s.most))
      (eqb-cases a 0xEF)))
      (eqb-cases a 0xED))
      (ltb-cases a 0xED)

  spelt-three : 0xE0 ≤ a → a ≤ 0xEF → Second a b → (0x80 ≤ c) × (c ≤ 0xBF) → nonchar a b c ≡ false → Spelt (Some (a % 16 * 4096 + b % 64 * 64 + c % 64, 3))
  unfolding utf8
  spelt-three l h s t e =
      let k = a % 16 * 4096 + b % 64 * 64 + c % 64 in
      let x : 0xE0 + k / 4096 ≡ a = omega (arith, s.least, s.most) in
      let y : 0x80 + k / 64 % 64 ≡ b = omega (arith, s.least, s.most) in
      let z : 0x80 + k % 64 ≡ c = omega (arith, s.least, s.most) in
      let many : 0x800 ≤ k = ⊎_elim (λ e. omega (arith, e.0, s.after-E0 e.0, s.most)) (λ e. omega (arith, e.0)) (eqb-cases a 0xE0) in
      (omega arith, rw (le-ltb k 0x80 (omega arith), le-ltb k 0x800 many, lt-ltb k 0x10000 (omega arith), x, y, z), three-range l h s t e)

  four-most : 0xF0 ≤ a → a ≤ 0xF4 → Second a b → a % 8 * 262144 + b % 64 * 4096 + c % 64 * 64 + d % 64 ≤ 0x10FFFF
  four-most l h s =
      ⊎_elim
      (λ e.
      let p : a % 8 ≡ 4 = omega (arith, e.0) in
      let q : b % 64 ≤ 15 = omega (arith, s.after-F4 e.0, s.least) in
      omega (arith, p, q))
      (λ e. let p : a % 8 ≤ 3 = omega (arith, e.0) in omega (arith, p))
      (eqb-cases a 0xF4)

  spelt-four : 0xF0 ≤ a → a ≤ 0xF4 → Second a b → (0x80 ≤ c) × (c ≤ 0xBF) → (0x80 ≤ d) × (d ≤ 0xBF)
      → Spelt (Some (a % 8 * 262144 + b % 64 * 4096 + c % 64 * 64 + d % 64, 4))
  unfolding utf8
  spelt-four l h s t u =
      let k = a % 8 * 262144 + b % 64 * 4096 + c % 64 * 64 + d % 64 in
      let w : 0xF0 + k / 262144 ≡ a = omega (arith, s.least, s.most) in
      let x : 0x80 + k / 4096 % 64 ≡ b = omega (arith, s.least, s.most) in
      let y : 0x80 + k / 64 % 64 ≡ c = omega (arith, s.least, s.most) in
      let z : 0x80 + k % 64 ≡ d = omega (arith, s.least, s.most) in
      let many : 0x10000 ≤ k = ⊎_elim (λ e. omega (arith, e.0, s.after-F0 e.0, s.most)) (λ e. omega (arith, e.0)) (eqb-cases a 0xF0) in
      (omega arith, rw (le-ltb k 0x80 (omega arith), le-ltb k 0x800 (omega arith), le-ltb k 0x10000 many, w, x, y, z), past many (four-most l h s))

  spelt-by : (k : ℕ) → Lead a k
      → Spelt (cond (eqb k 1) (single a) (cond (eqb k 2) (double a b) (cond (eqb k 3) (triple a b c) (cond (eqb k 4) (fourfold a b c d) None))))
  unfolding single double triple fourfold
  spelt-by k (one l) = by-test Spelt (control a) (λ e. tt) (λ e. spelt-one l e)
  spelt-by k (two l h) = by-test Spelt (second a b) (λ e. spelt-two l h (second_is a b e)) (λ e. tt)
  spelt-by k (three l h) =
      by-test Spelt (second a b)
      (λ e. by-test Spelt (later_byte c) (λ f. by-test Spelt (nonchar a b c) (λ g. tt) (λ g. spelt-three l h (second_is a b e) (later-range c f) g)) (λ f. tt))
      (λ e. tt)
  spelt-by k (four l h) =
      by-test Spelt (second a b)
      (λ e. by-test Spelt (later_byte c) (λ f. by-test Spelt (later_byte d) (λ g. spelt-four l h (second_is a b e) (later-range c f) (later-range d g)) (λ g. tt)) (λ f. tt))
      (λ e. tt)
  spelt-by k none = tt

first-four : (s : List ℕ) (i : ℕ) → i < 4 → byte s i ≡ byte (byte s 0 ∷ byte s 1 ∷ byte s 2 ∷ byte s 3 ∷ []) i
unfolding byte
first-four s zero h = refl
first-four s (suc zero) h = refl
first-four s (suc (suc zero)) h = refl
first-four s (suc (suc (suc zero))) h = refl
first-four s (suc (suc (suc (suc i)))) h = absurd (omega arith)

module _ (s : List ℕ) {c n : ℕ} (e : char_at s ≡ Some (c, n)) where
  front : (n ≤ 4) × (take n (byte s 0 ∷ byte s 1 ∷ byte s 2 ∷ byte s 3 ∷ []) ≡ utf8 c) × XmlRange c
  unfolding char_at
  front = let h = spelt-by (byte s 0) (byte s 1) (byte s 2) (byte s 3) (seq_len (byte s 0)) (lead (byte s 0)) in rw e at h

  -- the bytes of the character at the front are its spelling
  pub char-spelt : take n s ≡ utf8 c
  char-spelt = take-front s _ n (char-inside s e) front.0 (λ i l. first-four s i (omega (arith, front.0))) ∙ front.1

  pub char-xml : xml_char c ≡ true
  char-xml = xml-is c front.2

-- ---- from the character to bytes: its spelling is read as this character, whatever follows it

second-in : (a b : ℕ) → 0x80 ≤ b → b ≤ 0xBF → (a ≡ 0xE0 → 0xA0 ≤ b) → (a ≡ 0xF0 → 0x90 ≤ b) → (a ≡ 0xED → b ≤ 0x9F) → (a ≡ 0xF4 → b ≤ 0x8F) → second a b ≡ true
unfolding second low high
second-in a b l m f g h k =
    let x : low a ≤ b =
    by-test (λ (n : ℕ). n ≤ b) (eqb a 0xE0) (λ e. f (eqb-true _ _ e)) (λ n. by-test (λ (n : ℕ). n ≤ b) (eqb a 0xF0) (λ e. g (eqb-true _ _ e)) (λ n. l)) in
    let y : b ≤ high a =
    by-test (λ (n : ℕ). b ≤ n) (eqb a 0xED) (λ e. h (eqb-true _ _ e)) (λ n. by-test (λ (n : ℕ). b ≤ n) (eqb a 0xF4) (λ e. k (eqb-true _ _ e)) (λ n. m)) in
    rw (le-leb (low a) b x, le-leb b (high a) y)

later-in : (x : ℕ) → later_byte (0x80 + x % 64) ≡ true
unfolding later_byte
later-in x = rw (le-leb 0x80 (0x80 + x % 64) (omega arith), le-leb (0x80 + x % 64) 0xBF (omega arith))

-- only FFFE and FFFF are none
nonchar-none : (a b c : ℕ) → (a ≡ 0xEF → b ≡ 0xBF → c < 0xBE) → nonchar a b c ≡ false
unfolding nonchar
nonchar-none a b c f =
    by-test (λ (t : Bool). t ≡ false) (eqb a 0xEF)
    (λ e. by-test (λ (t : Bool). t ≡ false) (eqb b 0xBF) (λ g. lt-leb 0xBE c (f (eqb-true _ _ e) (eqb-true _ _ g))) (λ g. refl))
    (λ e. refl)

-- by the lead byte
two_at : (a b : ℕ) (r : List ℕ) → 0xC2 ≤ a → a ≤ 0xDF → char_at (a ∷ b ∷ r) ≡ double a b
unfolding char_at seq_len byte
two_at a b r l h = rw (lt-leb a 0x7F (omega arith), lt-leb a 0xC1 l, le-leb a 0xDF h)

three-at : (a b c : ℕ) (r : List ℕ) → 0xE0 ≤ a → a ≤ 0xEF → char_at (a ∷ b ∷ c ∷ r) ≡ triple a b c
unfolding char_at seq_len byte
three-at a b c r l h = rw (lt-leb a 0x7F (omega arith), lt-leb a 0xC1 (omega arith), lt-leb a 0xDF l, le-leb a 0xEF h)

four-at : (a b c d : ℕ) (r : List ℕ) → 0xF0 ≤ a → a ≤ 0xF4 → char_at (a ∷ b ∷ c ∷ d ∷ r) ≡ fourfold a b c d
unfolding char_at seq_len byte
four-at a b c d r l h = rw (lt-leb a 0x7F (omega arith), lt-leb a 0xC1 (omega arith), lt-leb a 0xDF (omega arith), lt-leb a 0xEF l, le-leb a 0xF4 h)

module _ (c : ℕ) where
  pub utf8-one : c < 0x80 → utf8 c ≡ c ∷ []
  unfolding utf8
  utf8-one h = rw (lt-ltb c 0x80 h)

  pub utf8-two : 0x80 ≤ c → c < 0x800 → utf8 c ≡ (0xC0 + c / 64) ∷ (0x80 + c % 64) ∷ []
  unfolding utf8
  utf8-two l h = rw (le-ltb c 0x80 l, lt-ltb c 0x800 h)

  pub utf8-three : 0x800 ≤ c → c < 0x10000 → utf8 c ≡ (0xE0 + c / 4096) ∷ (0x80 + c / 64 % 64) ∷ (0x80 + c % 64) ∷ []
  unfolding utf8
  utf8-three l h = rw (le-ltb c 0x80 (omega arith), le-ltb c 0x800 l, lt-ltb c 0x10000 h)

  pub utf8-four : 0x10000 ≤ c → utf8 c ≡ (0xF0 + c / 262144) ∷ (0x80 + c / 4096 % 64) ∷ (0x80 + c / 64 % 64) ∷ (0x80 + c % 64) ∷ []
  unfolding utf8
  utf8-four l = rw (le-ltb c 0x80 (omega arith), le-ltb c 0x800 (omega arith), le-ltb c 0x10000 l)

  -- by its size
  pub data Size : Type 0 where
    one : c < 0x80 → Size
    two : 0x80 ≤ c → c < 0x800 → Size
    three : 0x800 ≤ c → c < 0x10000 → Size
    four : 0x10000 ≤ c → Size

  pub size : Size
  size =
      ⊎_elim (λ y. one y.0)
      (λ y. ⊎_elim (λ z. two y.0 z.0) (λ z. ⊎_elim (λ u. three z.0 u.0) (λ u. four u.0) (ltb-cases c 0x10000)) (ltb-cases c 0x800))
      (ltb-cases c 0x80)

  -- what each byte has of the number, and their sum
  four-sum : c ≤ 0x10FFFF → (0xF0 + c / 262144) % 8 * 262144 + (0x80 + c / 4096 % 64) % 64 * 4096 + (0x80 + c / 64 % 64) % 64 * 64 + (0x80 + c % 64) % 64 ≡ c
  four-sum h =
      let w : (0xF0 + c / 262144) % 8 ≡ c / 262144 = omega arith in
      let x : (0x80 + c / 4096 % 64) % 64 ≡ c / 4096 % 64 = omega arith in
      let y : (0x80 + c / 64 % 64) % 64 ≡ c / 64 % 64 = omega arith in
      let z : (0x80 + c % 64) % 64 ≡ c % 64 = omega arith in
      rw (w, x, y, z) parts
    where
      parts : c / 262144 * 262144 + c / 4096 % 64 * 4096 + c / 64 % 64 * 64 + c % 64 ≡ c
      parts =
          let e : c / 4096 ≡ c / 262144 * 64 + c / 4096 % 64 = omega arith in
          let f : c / 64 ≡ c / 4096 * 64 + c / 64 % 64 = omega arith in
          let g : c ≡ c / 64 * 64 + c % 64 = omega arith in
          omega arith

  module _ (r : List ℕ) where
    abbrev Read : List ℕ → Type 0
    Read l = char_at (l ++ r) ≡ Some (c, length l)

    read_one : c < 0x80 → XmlRange c → Read (c ∷ [])
    unfolding byte single
    read_one h x = char-ascii (c ∷ r) h ∙ rw (low-control c h x)

    read-two : 0x80 ≤ c → c < 0x800 → Read ((0xC0 + c / 64) ∷ (0x80 + c % 64) ∷ [])
    unfolding double
    read-two l h =
        let a = 0xC0 + c / 64 in
        let b = 0x80 + c % 64 in
        let s : second a b ≡ true =
        second-in a b (omega arith) (omega arith) (λ e. omega arith) (λ e. omega arith) (λ e. omega arith) (λ e. omega arith) in
        let k : a % 32 * 64 + b % 64 ≡ c = omega arith in
        two_at a b r (omega arith) (omega arith) ∙ rw (s, k)

    read-three : 0x800 ≤ c → c < 0x10000 → (c ≤ 0xD7FF) ⊎ ((0xE000 ≤ c) × (c ≤ 0xFFFD)) → Read ((0xE0 + c / 4096) ∷ (0x80 + c / 64 % 64) ∷ (0x80 + c % 64) ∷ [])
    unfolding triple
    read-three l h x =
        let a = 0xE0 + c / 4096 in
        let b = 0x80 + c / 64 % 64 in
        let d = 0x80 + c % 64 in
        let s : second a b ≡ true =
        second-in a b (omega arith) (omega arith) (λ e. omega arith) (λ e. omega arith)
        (λ e. ⊎_elim (λ y. omega (arith, y)) (λ y. omega (arith, y)) x) (λ e. omega arith) in
        let n : nonchar a b d ≡ false = nonchar-none a b d (λ e f. ⊎_elim (λ y. omega (arith, y)) (λ y. omega (arith, y)) x) in
        let k : a % 16 * 4096 + b % 64 * 64 + d % 64 ≡ c = omega arith in
        three-at a b d r (omega arith) (omega arith) ∙ rw (s, later-in c, n, k)

    read-four : 0x10000 ≤ c → c ≤ 0x10FFFF → Read ((0xF0 + c / 262144) ∷ (0x80 + c / 4096 % 64) ∷ (0x80 + c / 64 % 64) ∷ (0x80 + c % 64) ∷ [])
    unfolding fourfold
    read-four l h =
        let a = 0xF0 + c / 262144 in
        let b = 0x80 + c / 4096 % 64 in
        let d = 0x80 + c / 64 % 64 in
        let e = 0x80 + c % 64 in
        let s : second a b ≡ true =
        second-in a b (omega arith) (omega arith) (λ e. omega arith) (λ e. omega arith) (λ e. omega arith) (λ e. omega arith) in
        let k : a % 8 * 262144 + b % 64 * 4096 + d % 64 * 64 + e % 64 ≡ c = four-sum h in
        four-at a b d e r (omega arith) (omega arith) ∙ rw (s, later-in (c / 64), later-in c, k)

    pub utf8-read : xml_char c ≡ true → char_at (utf8 c ++ r) ≡ Some (c, length (utf8 c))
    utf8-read e = by size (xml-range c e)
      where
        middle : 0x800 ≤ c → c < 0x10000 → XmlRange c → (c ≤ 0xD7FF) ⊎ ((0xE000 ≤ c) × (c ≤ 0xFFFD))
        middle l h (tab q) = absurd (omega (arith, q))
        middle l h (lf q) = absurd (omega (arith, q))
        middle l h (cr q) = absurd (omega (arith, q))
        middle l h (before p q) = inl q
        middle l h (behind p q) = inr (p, q)
        middle l h (past p q) = absurd (omega arith)

        by : Size → XmlRange c → char_at (utf8 c ++ r) ≡ Some (c, length (utf8 c))
        by (one h) x = rw (utf8-one h) (read_one h x)
        by (two l h) x = rw (utf8-two l h) (read-two l h)
        by (three l h) x = rw (utf8-three l h) (read-three l h (middle l h x))
        by (four l) x = rw (utf8-four l) (read-four l (let m = xml-most c e in omega arith))

  pub utf8-some : 1 ≤ length (utf8 c)
  utf8-some = by size
    where
      by : Size → 1 ≤ length (utf8 c)
      by (one h) = rw (utf8-one h) (omega arith)
      by (two l h) = rw (utf8-two l h) (omega arith)
      by (three l h) = rw (utf8-three l h) (omega arith)
      by (four l) = rw (utf8-four l) (omega arith)

  pub utf8-few : length (utf8 c) ≤ 4
  utf8-few = by size
    where
      by : Size → length (utf8 c) ≤ 4
      by (one h) = rw (utf8-one h) (omega arith)
      by (two l h) = rw (utf8-two l h) (omega arith)
      by (three l h) = rw (utf8-three l h) (omega arith)
      by (four l) = rw (utf8-four l) (omega arith)
