-- A note that is printed in hexadecimal digits and read back.
-- Assumes nothing.
use mathlib.Core.Path.{◌≡◌, refl, ap, ◌∙◌}
use mathlib.Core.List.{List, [], ◌∷◌, ◌++◌}
use mathlib.Core.Logic.{⊎_elim}
use Prim.Native.Nat.{ℕ, zero, suc, ◌+◌, ◌*◌, ◌/◌, ◌%◌, ◌^◌, ◌≤◌, ◌<◌}
use native.Mathlib.Omega.{arith}
use borrow.Author.Tests.{lt-ltb, le-ltb}
use Rattle.lists.proofs.Cases.{ltb-cases}
use Rattle.lines.specs.Text.{digit_of, hex_bytes, glyph_of, hex_text}
use Rattle.notes.specs.Note.{groups_in, groups, flat, AllBelow}
use Rattle.notes.proofs.Groups.{on, last, less}

-- ---- the bytes of a note
below_both : (m : ℕ) (x y : List ℕ) → AllBelow m x → AllBelow m y → AllBelow m (x ++ y)
unfolding AllBelow
below_both m [] y p q = q
below_both m (a ∷ x) y p q = (p.0, below_both m x y p.1 q)

groups-bytes : (k n : ℕ) → n < 128 ^ suc k → AllBelow 256 (groups_in k n)
unfolding AllBelow
groups-bytes zero n h = let l : n < 128 = omega arith in rw (last 0 n l) (omega arith, tt)
groups-bytes (suc k) n h =
    ⊎_elim
    (λ y. rw (last (suc k) n y.0) (omega (arith, y.0), tt))
    (λ y. rw (on k n y.0) (omega arith, groups-bytes k (n / 128) (less k n h)))
    (ltb-cases n 128)

pub note-bytes : (ns : List ℕ) → AllBelow (2 ^ 21) ns → AllBelow 256 (flat ns)
unfolding AllBelow flat
note-bytes [] h = tt
note-bytes (n ∷ ns) h = below_both 256 (groups n) (flat ns) (groups-bytes 4 n (omega (arith, h.0))) (note-bytes ns h.1)

pub read-bytes : (h : ℕ) (s : List ℕ) → AllBelow 256 (hex_bytes h s)
unfolding AllBelow hex_bytes
read-bytes h [] = tt
read-bytes h (c ∷ s) =
    ⊎_elim
    (λ y.
    ⊎_elim
    (λ z. rw (y.1, z.1) (omega (arith, y.0, z.0), read-bytes 16 s))
    (λ z. rw (y.1, z.1) (read-bytes (digit_of c) s))
    (ltb-cases h 16))
    (λ y. rw y.1 (read-bytes h s))
    (ltb-cases (digit_of c) 16)

-- ---- two digits for a byte
digit_low : (d : ℕ) → d < 10 → digit_of (48 + d) ≡ d
unfolding digit_of
digit_low d h = simp (le-ltb (48 + d) 48 (omega arith), lt-ltb (48 + d) 58 (omega arith)) (omega arith)

digit-high : (d : ℕ) → 10 ≤ d → d < 16 → digit_of (55 + d) ≡ d
unfolding digit_of
digit-high d g h =
    simp (le-ltb (55 + d) 48 (omega arith), le-ltb (55 + d) 58 (omega arith), le-ltb (55 + d) 65 (omega arith), lt-ltb (55 + d) 71 (omega arith))
    (omega arith)

digit_glyph : (n : ℕ) → digit_of (glyph_of n) ≡ n % 16
unfolding glyph_of
digit_glyph n =
    ⊎_elim
    (λ y. rw y.1 (digit_low (n % 16) y.0))
    (λ y. rw y.1 (digit-high (n % 16) y.0 (omega arith)))
    (ltb-cases (n % 16) 10)

-- h is the first digit of the byte b, and c the character of its second
pair_read : (b h c : ℕ) (s : List ℕ) → h ≡ b / 16 → b < 256 → digit_of c ≡ b % 16 → hex_bytes h (c ∷ s) ≡ b ∷ hex_bytes 16 s
unfolding hex_bytes
pair_read b h c s e w q =
    rw (q, lt-ltb (b % 16) 16 (omega arith), lt-ltb h 16 (omega arith))
    (ap (λ (x : ℕ). x ∷ hex_bytes 16 s) (let z : h * 16 + b % 16 ≡ b = omega arith in z))

first_read : (c h : ℕ) (s : List ℕ) → digit_of c ≡ h → h < 16 → hex_bytes 16 (c ∷ s) ≡ hex_bytes h s
unfolding hex_bytes
first_read c h s e w = rw (e, lt-ltb h 16 w)

byte-back : (b : ℕ) (s : List ℕ) → b < 256 → hex_bytes 16 (glyph_of (b / 16) ∷ glyph_of b ∷ s) ≡ b ∷ hex_bytes 16 s
byte-back b s w =
    let e : digit_of (glyph_of (b / 16)) ≡ b / 16 = digit_glyph (b / 16) ∙ (let z : b / 16 % 16 ≡ b / 16 = omega arith in z) in
    first_read (glyph_of (b / 16)) (b / 16) (glyph_of b ∷ s) e (omega arith) ∙ pair_read b (b / 16) (glyph_of b) s refl w (digit_glyph b)

space-read : (s : List ℕ) → hex_bytes 16 (32 ∷ s) ≡ hex_bytes 16 s
unfolding hex_bytes digit_of
space-read s = refl

none_read : hex_bytes 16 [] ≡ []
unfolding hex_bytes
none_read = refl

pub printed-back : (s : List ℕ) → AllBelow 256 s → hex_bytes 16 (hex_text s) ≡ s
unfolding AllBelow hex_text
printed-back [] h = none_read
printed-back (b ∷ []) h = byte-back b [] h.0 ∙ ap (λ (t : List ℕ). b ∷ t) none_read
printed-back (b ∷ c ∷ s) h =
    byte-back b (32 ∷ hex_text (c ∷ s)) h.0 ∙ ap (λ (t : List ℕ). b ∷ t) (space-read (hex_text (c ∷ s)) ∙ printed-back (c ∷ s) h.1)
