-- K4: "the five named references of XML 1.0 and numeric ones, decimal or hexadecimal, naming an XML character". The reference at the front of a list of bytes.
use Rattle.std.specs.Prelude.{ℕ, ◌+◌, ◌*◌, ◌%◌, List, [], ◌∷◌, Bool, true, false, cond, leb, ltb, eqb, drop, Option, Some, None}
use Prim.Native.Char.{code}
use Rattle.slices.specs.Bytes.{byte}
use Rattle.slices.specs.Part.{part_of}
use Rattle.slices.specs.Run.{run}
use Rattle.slices.specs.Same.{begins}
use Rattle.slices.specs.Text.{text}

-- XML 1.0, Char: "#x9 | #xA | #xD | [#x20-#xD7FF] | [#xE000-#xFFFD] | [#x10000-#x10FFFF]"
unfoldable pub within : ℕ → ℕ → ℕ → Bool
within low high c = cond (leb low c) (leb c high) false

unfoldable pub xml_char : ℕ → Bool
xml_char c =
    cond (eqb c 0x9) true
    (cond (eqb c 0xA) true
    (cond (eqb c 0xD) true
    (cond (within 0x20 0xD7FF c) true
    (cond (within 0xE000 0xFFFD c) true
    (within 0x10000 0x10FFFF c)))))

-- 01: "Digits are ASCII only"; XML 1.0, CharRef: "'&#' [0-9]+ ';' | '&#x' [0-9a-fA-F]+ ';'"
unfoldable pub digit : ℕ → Bool
digit b = cond (leb (code "0") b) (leb b (code "9")) false

unfoldable pub hex_digit : ℕ → Bool
hex_digit b = cond (leb (code "a") b) (leb b (code "f")) (cond (leb (code "A") b) (leb b (code "F")) (digit b))

unfoldable pub ref_digit : Bool → ℕ → Bool
ref_digit hex b = cond hex (hex_digit b) (digit b)

unfoldable pub base : Bool → ℕ
base hex = cond hex 16 10

-- `0` is 30 in hexadecimal, `A` 41 and `a` 61: what 16 leaves over is the digit, and of a letter nine less than it
unfoldable pub digit_value : ℕ → ℕ
digit_value b = cond (leb b (code "9")) (b % 16) (b % 16 + 9)

-- the number that digits say, after others that say n
unfoldable pub number_by : Bool → ℕ → List ℕ → ℕ
number_by hex n [] = n
number_by hex n (b ∷ t) = number_by hex (n * base hex + digit_value b) t

unfoldable pub char_by : ℕ → ℕ → Option (ℕ × ℕ)
char_by c n = cond (xml_char c) (Some (c, n)) None

-- n digits from the place `from` on, at least one, and then `;`
unfoldable pub numbered_to : Bool → ℕ → List ℕ → ℕ → Option (ℕ × ℕ)
numbered_to hex from s n =
    cond (eqb n 0) None
    (cond (eqb (byte s (from + n)) (code ";")) (char_by (number_by hex 0 (part_of s from n)) (from + n + 1)) None)

unfoldable pub numbered_at : Bool → ℕ → List ℕ → Option (ℕ × ℕ)
numbered_at hex from s = numbered_to hex from s (run (ref_digit hex) (drop from s))

-- "the five named references of XML 1.0"
unfoldable pub named_at : List ℕ → Option (ℕ × ℕ)
named_at s =
    cond (begins (text "&amp;") s) (Some (code "&", 5))
    (cond (begins (text "&lt;") s) (Some (code "<", 4))
    (cond (begins (text "&gt;") s) (Some (code ">", 4))
    (cond (begins (text "&quot;") s) (Some (0x22, 6))
    (cond (begins (text "&apos;") s) (Some (code "'", 6)) None))))

unfoldable pub reference_at : List ℕ → Option (ℕ × ℕ)
reference_at s = cond (begins (text "&#x") s) (numbered_at true 3 s) (cond (begins (text "&#") s) (numbered_at false 2 s) (named_at s))

-- where the code stops counting. Public contracts do not cite this.
unfoldable pub capped : ℕ → ℕ
capped n = cond (ltb n 0x110000) n 0x110000
