-- Characters as bytes, and the bytes of what a value says.
use Rattle.std.specs.Prelude.{ℕ, zero, suc, pred, ◌+◌, ◌/◌, ◌%◌, List, [], ◌∷◌, ◌++◌, cond, ltb, Some, None}
use Rattle.characters.specs.Utf8.{char_at}
use Rattle.characters.specs.Says.{says}

-- RFC 3629: a character below 80 is its own byte, one below 800 has two bytes, one below 10000 three, any other four; six bits to each byte after the first
unfoldable pub utf8 : ℕ → List ℕ
utf8 c =
    cond (ltb c 0x80) (c ∷ [])
    (cond (ltb c 0x800) ((0xC0 + c / 64) ∷ (0x80 + c % 64) ∷ [])
    (cond (ltb c 0x10000) ((0xE0 + c / 4096) ∷ (0x80 + c / 64 % 64) ∷ (0x80 + c % 64) ∷ [])
    ((0xF0 + c / 262144) ∷ (0x80 + c / 4096 % 64) ∷ (0x80 + c / 64 % 64) ∷ (0x80 + c % 64) ∷ [])))

unfoldable pub spelled : List ℕ → List ℕ
spelled [] = []
spelled (c ∷ l) = utf8 c ++ spelled l

-- a value of a document as a text of "unescaped header values and identifications" has it: the bytes of what it says; a byte that says no character is 0
unfoldable pub unescaped : List ℕ → List ℕ
unescaped v = spelled (says v)

-- the characters of such a text, in which `&` stands for itself, after k bytes of the last one; a byte that belongs to none is 0
unfoldable pub chars_after : ℕ → List ℕ → List ℕ
chars_after k [] = []
chars_after (suc k) (b ∷ t) = chars_after k t
chars_after zero (b ∷ t) = elim (char_at (b ∷ t)) [ Some (c, n) ↦ c ∷ chars_after (pred n) t | None ↦ 0 ∷ chars_after 0 t ]

unfoldable pub chars_of : List ℕ → List ℕ
chars_of t = chars_after 0 t
