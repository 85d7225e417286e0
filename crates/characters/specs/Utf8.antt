-- "Bytes are UTF-8 (RFC 3629) and XML 1.0 characters": the character at the front of a list of bytes.
use Rattle.std.specs.Prelude.{ℕ, ◌+◌, ◌*◌, ◌%◌, List, Bool, true, false, cond, leb, eqb, Option, Some, None}
use Rattle.slices.specs.Bytes.{byte}

-- "The lead byte tells the length: 00 to 7F one, C2 to DF two, E0 to EF three, F0 to F4 four"; any other none
unfoldable pub seq_len : ℕ → ℕ
seq_len a =
    cond (leb a 0x7F) 1
    (cond (leb a 0xC1) 0
    (cond (leb a 0xDF) 2
    (cond (leb a 0xEF) 3
    (cond (leb a 0xF4) 4 0))))

-- "E0, ED, F0 and F4 narrow the second byte as the RFC says": it is from `low` to `high`
unfoldable pub low : ℕ → ℕ
low a = cond (eqb a 0xE0) 0xA0 (cond (eqb a 0xF0) 0x90 0x80)

unfoldable pub high : ℕ → ℕ
high a = cond (eqb a 0xED) 0x9F (cond (eqb a 0xF4) 0x8F 0xBF)

unfoldable pub second : ℕ → ℕ → Bool
second a b = cond (leb (low a) b) (leb b (high a)) false

-- any later byte is 80 to BF
unfoldable pub later_byte : ℕ → Bool
later_byte b = cond (leb 0x80 b) (leb b 0xBF) false

-- XML 1.0 has no character below 20 but tab, LF and CR,
unfoldable pub control : ℕ → Bool
control a = cond (leb 0x20 a) false (cond (eqb a 0x09) false (cond (eqb a 0x0A) false (cond (eqb a 0x0D) false true)))

-- and neither U+FFFE nor U+FFFF, which are EF BF BE and EF BF BF
unfoldable pub nonchar : ℕ → ℕ → ℕ → Bool
nonchar a b c = cond (eqb a 0xEF) (cond (eqb b 0xBF) (leb 0xBE c) false) false

-- Characters of one, two, three and four bytes: the number in Unicode, made of the low bits of each byte, and how many bytes it takes.
unfoldable pub single : ℕ → Option (ℕ × ℕ)
single a = cond (control a) None (Some (a, 1))

unfoldable pub double : ℕ → ℕ → Option (ℕ × ℕ)
double a b = cond (second a b) (Some (a % 32 * 64 + b % 64, 2)) None

unfoldable pub triple : ℕ → ℕ → ℕ → Option (ℕ × ℕ)
triple a b c =
    cond (second a b) (cond (later_byte c) (cond (nonchar a b c) None (Some (a % 16 * 4096 + b % 64 * 64 + c % 64, 3))) None) None

unfoldable pub fourfold : ℕ → ℕ → ℕ → ℕ → Option (ℕ × ℕ)
fourfold a b c d =
    cond (second a b)
    (cond (later_byte c) (cond (later_byte d) (Some (a % 8 * 262144 + b % 64 * 4096 + c % 64 * 64 + d % 64, 4)) None) None)
    None

-- the character at the front of s
unfoldable pub char_at : List ℕ → Option (ℕ × ℕ)
char_at s =
    cond (eqb (seq_len (byte s 0)) 1) (single (byte s 0))
    (cond (eqb (seq_len (byte s 0)) 2) (double (byte s 0) (byte s 1))
    (cond (eqb (seq_len (byte s 0)) 3) (triple (byte s 0) (byte s 1) (byte s 2))
    (cond (eqb (seq_len (byte s 0)) 4) (fourfold (byte s 0) (byte s 1) (byte s 2) (byte s 3)) None)))

-- how many bytes a reader passes
abbrev pub char_use : Option (ℕ × ℕ) → ℕ
char_use (Some (c, n)) = n
char_use None = 1

-- no slice is longer than so many bytes
abbrev pub slice_most : ℕ
slice_most = 9223372036854775807
