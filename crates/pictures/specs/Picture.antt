-- A form drawn as a picture, one mark for each character: `9` a digit, `X` A-Z or 0-9, `#` A-Z, 0-9 or `-`, `?` A, B or C; any
-- other mark stands for itself.
use Rattle.std.specs.Prelude.{ℕ, List, [], ◌∷◌, map, Bool, true, false, cond, leb, eqb}
use Prim.Native.Char.{code}
use Rattle.characters.specs.References.{digit}

-- A to Z
unfoldable pub capital : ℕ → Bool
capital c = cond (leb (code "A") c) (leb c (code "Z")) false

-- "A-Z or 0-9"
unfoldable pub capital_or_digit : ℕ → Bool
capital_or_digit c = cond (capital c) true (digit c)

-- "A-Z, 0-9, `-`"
unfoldable pub party_char : ℕ → Bool
party_char c = cond (capital_or_digit c) true (eqb c (code "-"))

-- "A, B or C"
unfoldable pub first_three : ℕ → Bool
first_three c = cond (leb (code "A") c) (leb c (code "C")) false

-- the mark m takes the character c
unfoldable pub takes : ℕ → ℕ → Bool
takes m c =
    cond (eqb m (code "9")) (digit c)
    (cond (eqb m (code "X")) (capital_or_digit c)
    (cond (eqb m (code "#")) (party_char c)
    (cond (eqb m (code "?")) (first_three c)
    (eqb m c))))

-- each character passes the test at its place, and there are as many
unfoldable pub held : List (ℕ → Bool) → List ℕ → Bool
held [] [] = true
held [] (c ∷ l) = false
held (p ∷ ps) [] = false
held (p ∷ ps) (c ∷ l) = cond (p c) (held ps l) false

-- the characters fit the picture: each is taken by the mark at its place, and there are as many
unfoldable pub fits_of : List ℕ → List ℕ → Bool
fits_of picture l = held (map takes picture) l

-- what the code holds a character against: in a plain text a character, which stands for itself, else a mark. Public contracts do not cite this.
unfoldable pub test : Bool → ℕ → ℕ → Bool
test plain m c = cond plain (eqb m c) (takes m c)
