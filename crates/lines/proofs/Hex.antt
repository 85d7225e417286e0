-- The loops over hexadecimal digits.
--     waiting    from digits to bytes
--     Shown      from bytes to digits
-- and how long the digits are.
-- Assumes nothing.
use mathlib.Core.Path.{◌≡◌, refl, sym}
use Rattle.std.proofs.Common.{Option, Some, None}
use mathlib.Core.List.{List, [], ◌∷◌}
use mathlib.Core.Bool.{true, false}
use mathlib.Core.Logic.{⊎_elim}
use Prim.Native.Nat.{ℕ, suc, ◌+◌, ◌-◌, ◌*◌, ◌/◌, ◌≤◌, ◌<◌, min}
use native.Mathlib.Numerals.{add-one}
use native.Mathlib.Omega.{arith}
use lib.Dec.{ltb}
use lib.ListN.{length, drop, set, get_or, drop_of_length-le}
use lib.Seq.{drop-cons, length-take-le}
use borrow.Author.Tests.{lt-ltb, le-ltb}
use Rattle.io.specs.Counts.{IsPrefixLen}
use lib.Seq.{sets}
use Rattle.lists.proofs.Cases.{ltb-cases}
use Rattle.lists.proofs.Stores.{Putting, put-start, put_next, put-end}
use Rattle.lines.specs.Text.{digit_of, told_digit, hex_bytes, glyph_of, hex_text}

-- what the contracts say at the end: the count, the buffer, and that the count lies within it
pub done : {w out₀ out : List ℕ} {n : ℕ} → Putting w out₀ out n []
    → (n ≡ min (length w) (length out₀)) × ((out ≡ sets out₀ 0 w) × IsPrefixLen n out)
done {w} {out₀} {out} {n} p = let e = put-end p in (e.0, (e.1, (e.2, sym (length-take-le n out e.2))))

-- ---- from digits to bytes
-- the digit that waits for its second, as `hex_bytes` takes it
abbrev pub waiting : Option ℕ → ℕ
waiting (Some h) = h
waiting None = 16

-- what the code tells of a character
no-digit : (c : ℕ) → None ≡ told_digit c → ltb (digit_of c) 16 ≡ false
unfolding told_digit
no-digit c e =
    ⊎_elim
    (λ (y : (digit_of c < 16) × (ltb (digit_of c) 16 ≡ true)). let f = rw y.1 at e in absurd (cc))
    (λ (y : (16 ≤ digit_of c) × (ltb (digit_of c) 16 ≡ false)). y.1)
    (ltb-cases (digit_of c) 16)

digit-told : (c low : ℕ) → Some low ≡ told_digit c → (digit_of c < 16) × (low ≡ digit_of c)
unfolding told_digit
digit-told c low e =
    ⊎_elim
    (λ (y : (digit_of c < 16) × (ltb (digit_of c) 16 ≡ true)). let f = rw y.1 at e in (y.0, cc))
    (λ (y : (16 ≤ digit_of c) × (ltb (digit_of c) 16 ≡ false)). let f = rw y.1 at e in absurd (cc))
    (ltb-cases (digit_of c) 16)

pub digit-fits : (c low : ℕ) → Some low ≡ told_digit c → low < 16
digit-fits c low e = let d = digit-told c low e in rw d.1 d.0

-- a turn: what the character at i does to the bytes that are still to come
module _ (line : List ℕ) (i h : ℕ) (l : i < length line) where
  pub hex-pass : None ≡ told_digit (get_or line i 0) → hex_bytes h (drop i line) ≡ hex_bytes h (drop (i + 1) line)
  unfolding hex_bytes
  hex-pass n = rw (add-one, drop-cons line i 0 l) (simp (no-digit (get_or line i 0) n))

  module _ (low : ℕ) (e : Some low ≡ told_digit (get_or line i 0)) where
    pub hex-first : 16 ≤ h → hex_bytes h (drop i line) ≡ hex_bytes low (drop (i + 1) line)
    unfolding hex_bytes
    hex-first g =
        let d = digit-told (get_or line i 0) low e in
        rw (add-one, drop-cons line i 0 l, d.1) (simp (lt-ltb (digit_of (get_or line i 0)) 16 d.0, le-ltb h 16 g))

    pub hex-pair : h < 16 → hex_bytes h (drop i line) ≡ (h * 16 + low) ∷ hex_bytes 16 (drop (i + 1) line)
    unfolding hex_bytes
    hex-pair g =
        let d = digit-told (get_or line i 0) low e in
        rw (add-one, drop-cons line i 0 l, d.1) (simp (lt-ltb (digit_of (get_or line i 0)) 16 d.0, lt-ltb h 16 g))

pub hex-end : (h i : ℕ) (line : List ℕ) → length line ≤ i → hex_bytes h (drop i line) ≡ []
unfolding hex_bytes
hex-end h i line l = rw (drop_of_length-le line l) refl

-- ---- from bytes to digits: i bytes are shown
pub record Shown (s out₀ out : List ℕ) (n i : ℕ) : Type 0 where
  pub most : i ≤ length s
  pub put : Putting (hex_text s) out₀ out n (hex_text (drop i s))

pub shown-start : (s out₀ : List ℕ) → Shown s out₀ out₀ 0 0
shown-start s out₀ = record { most = omega arith; put = put-start (hex_text s) out₀ }

text-more : (s : List ℕ) (i : ℕ) → suc i < length s
    → hex_text (drop i s) ≡ glyph_of (get_or s i 0 / 16) ∷ glyph_of (get_or s i 0) ∷ 32 ∷ hex_text (drop (suc i) s)
unfolding hex_text
text-more s i h = let g : i < length s = omega arith in rw (drop-cons s i 0 g, drop-cons s (suc i) 0 h) refl

text-last : (s : List ℕ) (i : ℕ) → i < length s → length s ≤ suc i
    → hex_text (drop i s) ≡ glyph_of (get_or s i 0 / 16) ∷ glyph_of (get_or s i 0) ∷ hex_text (drop (suc i) s)
unfolding hex_text
text-last s i h g = rw (drop-cons s i 0 h, drop_of_length-le s g) refl

-- A turn: what the two digits leave, and the space after them.
module _ (s out₀ out : List ℕ) (n i : ℕ) (r : Shown s out₀ out n i) (h : i < length s)
    (a b m k : ℕ) (x y : List ℕ) (ea : a ≡ glyph_of (get_or s i 0 / 16)) (eb : b ≡ glyph_of (get_or s i 0))
    (em : m ≡ min (n + 1) (length out)) (ex : x ≡ set out n a) (ek : k ≡ min (m + 1) (length x)) (ey : y ≡ set x m b) where
  pub shown-last : length s ≤ i + 1 → Shown s out₀ y k (i + 1)
  shown-last g =
      let q = text-last s i h (rw add-one at g) in
      let p : Putting (hex_text s) out₀ out n (a ∷ b ∷ hex_text (drop (suc i) s)) = rw (ea, eb) (rw q at r.put) in
      record { most = omega arith; put = rw add-one (put_next (put_next p em ex) ek ey) }

  pub shown-more : i + 1 < length s → (j : ℕ) (z : List ℕ) → j ≡ min (k + 1) (length y) → z ≡ set y k 32 → Shown s out₀ z j (i + 1)
  shown-more g j z ej ez =
      let q = text-more s i (rw add-one at g) in
      let p : Putting (hex_text s) out₀ out n (a ∷ b ∷ 32 ∷ hex_text (drop (suc i) s)) = rw (ea, eb) (rw q at r.put) in
      record { most = omega arith; put = rw add-one (put_next (put_next (put_next p em ex) ek ey) ej ez) }

pub shown-end : (s out₀ out : List ℕ) (n i : ℕ) → Shown s out₀ out n i → length s ≤ i → Putting (hex_text s) out₀ out n []
unfolding hex_text
shown-end s out₀ out n i r h = rw (drop_of_length-le s h) at r.put

-- two digits a byte, and a space between two
pub hex-size : (s : List ℕ) → length (hex_text s) ≤ 3 * length s - 1
unfolding hex_text
hex-size [] = omega arith
hex-size (b ∷ []) = omega arith
hex-size (b ∷ c ∷ s) = let h = hex-size (c ∷ s) in omega arith
