-- Lines and hexadecimal digits.
use Rattle.std.specs.Prelude.{ℕ, ◌+◌, ◌-◌, ◌*◌, ◌/◌, ◌%◌, List, [], ◌∷◌, cond, eqb, ltb, Option, Some, None}

-- the bytes before the first line feed, or all, where there is none
unfoldable pub line_of : List ℕ → List ℕ
line_of [] = []
line_of (b ∷ s) = cond (eqb b 10) [] (b ∷ line_of s)

-- what a hexadecimal digit stands for: `0` to `9`, `A` to `F`, `a` to `f`; 16 for any other character
unfoldable pub digit_of : ℕ → ℕ
digit_of c =
    cond (ltb c 48) 16
    (cond (ltb c 58) (c - 48)
    (cond (ltb c 65) 16
    (cond (ltb c 71) (c - 55)
    (cond (ltb c 97) 16
    (cond (ltb c 103) (c - 87) 16)))))

-- the same as the code tells it, and none for any other character
unfoldable pub told_digit : ℕ → Option ℕ
told_digit c = cond (ltb (digit_of c) 16) (Some (digit_of c)) None

-- the bytes that hexadecimal digits stand for, two digits a byte, other characters passed over, also between the two: `4 1` is the byte 41.
-- h is the first digit of a byte, and 16 where none is waiting for its second; a last digit without a second is dropped.
unfoldable pub hex_bytes : ℕ → List ℕ → List ℕ
hex_bytes h [] = []
hex_bytes h (c ∷ s) =
    cond (ltb (digit_of c) 16)
    (cond (ltb h 16) ((h * 16 + digit_of c) ∷ hex_bytes 16 s) (hex_bytes (digit_of c) s))
    (hex_bytes h s)

-- the upper-case hexadecimal digit for the last four bits of n
unfoldable pub glyph_of : ℕ → ℕ
glyph_of n = cond (ltb (n % 16) 10) (48 + n % 16) (55 + n % 16)

-- "two-digit upper-case hex, single spaces"
unfoldable pub hex_text : List ℕ → List ℕ
hex_text [] = []
hex_text (b ∷ []) = glyph_of (b / 16) ∷ glyph_of b ∷ []
hex_text (b ∷ c ∷ s) = glyph_of (b / 16) ∷ glyph_of b ∷ 32 ∷ hex_text (c ∷ s)
