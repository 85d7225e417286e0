-- What stands in a tag after its name: white space, and then an attribute, `>` or `/>`.
use Rattle.std.specs.Prelude.{ℕ, ◌+◌, List, Bool, true, false, cond, drop, eqb, ltb, Option, Some, None}
use Rattle.slices.specs.Bytes.{byte}
use Rattle.slices.specs.Run.{run}
use Rattle.slices.specs.Walk.{WalkStep, go, stop, walk}
use Rattle.characters.specs.Utf8.{char_at}
use Rattle.characters.specs.References.{reference_at}
use Rattle.characters.specs.Says.{Met, referred, standing, met}
use Rattle.attributes.specs.Names.{name_start, name_byte, white}
use Rattle.attributes.specs.declared.Piece.{Piece}
use Rattle.attributes.specs.declared.Piece.TheVariants.{Attribute, Close, CloseEmpty, Torn}

-- "with single or double quotes"
unfoldable pub quote : ℕ → Bool
quote b = cond (eqb b 0x22) true (eqb b 0x27)

-- "no tab, CR or LF inside an attribute value"; "`<` in a value, makes the item unreadable"
unfoldable pub fit : ℕ → Bool
fit c = cond (eqb c 0x3C) false (cond (eqb c 0x09) false (cond (eqb c 0x0A) false (cond (eqb c 0x0D) false true)))

-- a value: characters that may stand in it, and references, up to the quote q. K4: "2 for any other reference", which makes the item unreadable
unfoldable pub standing_next : ℕ → ℕ → Option (ℕ × ℕ) → WalkStep ℕ (Option ℕ)
standing_next q at (Some (c, n)) = cond (fit c) (cond (eqb c q) (stop (Some at)) (go n (at + n))) (stop None)
standing_next q at None = stop None

unfoldable pub referred_next : ℕ → Option (ℕ × ℕ) → WalkStep ℕ (Option ℕ)
referred_next at (Some (c, n)) = go n (at + n)
referred_next at None = stop None

unfoldable pub value_next : ℕ → ℕ → Met → WalkStep ℕ (Option ℕ)
value_next q at (referred x) = referred_next at x
value_next q at (standing x) = standing_next q at x

unfoldable pub value_over : ℕ → Option ℕ
value_over at = None

unfoldable pub value : ℕ → List ℕ → Option ℕ
value q s = walk met (value_next q) value_over 0 0 s

-- the place of the opening quote, after the name that ends before a, white space, `=` and white space; with no `=` it is 0, where a piece has white space and no quote
unfoldable pub opening_from : List ℕ → ℕ → ℕ
opening_from s e = cond (eqb (byte s e) 0x3D) (e + 1 + run white (drop (e + 1) s)) 0

unfoldable pub opening : List ℕ → ℕ → ℕ
opening s a = opening_from s (a + run white (drop a s))

-- An attribute that starts w bytes on: a name of n bytes, `=`, a quoted value. o is the place of the opening quote.
unfoldable pub attribute_end : ℕ → ℕ → ℕ → Option ℕ → Piece
attribute_end w n v (Some m) = Attribute w n v m (v + m + 1)
attribute_end w n v None = Torn

unfoldable pub attribute_quote : List ℕ → ℕ → ℕ → ℕ → Piece
attribute_quote s w n o = cond (quote (byte s o)) (attribute_end w n (o + 1) (value (byte s o) (drop (o + 1) s))) Torn

unfoldable pub attribute_name : List ℕ → ℕ → ℕ → Piece
attribute_name s w n = attribute_quote s w n (opening s (w + n))

unfoldable pub attribute : List ℕ → ℕ → Piece
attribute s w = cond (name_start (byte s w)) (attribute_name s w (run name_byte (drop w s))) Torn

-- w bytes of white space, and then `>`, `/>`, or an attribute, which needs the white space
unfoldable pub piece_after : List ℕ → ℕ → Piece
piece_after s w =
    cond (eqb (byte s w) 0x3E) (Close (w + 1))
    (cond (eqb (byte s w) 0x2F) (cond (eqb (byte s (w + 1)) 0x3E) (CloseEmpty (w + 2)) Torn)
    (cond (eqb w 0) Torn (attribute s w)))

unfoldable pub piece : List ℕ → Piece
piece s = piece_after s (run white s)

-- how far a value and a piece reach
abbrev pub value_end : Option ℕ → ℕ
value_end (Some m) = m
value_end None = 0

abbrev pub piece_use : Piece → ℕ
piece_use (Attribute w n v m e) = e
piece_use (Close n) = n
piece_use (CloseEmpty n) = n
piece_use Torn = 1

-- where the value of an attribute ends
abbrev pub piece_value : Piece → ℕ
piece_value (Attribute w n v m e) = v + m
piece_value (Close n) = 0
piece_value (CloseEmpty n) = 0
piece_value Torn = 0

-- ---- what the code does. Public contracts do not cite this.

-- a byte below 80 that may stand as it is: an XML character, and neither `<` nor `&`
unfoldable pub plain : ℕ → Bool
plain b = cond (ltb b 0x20) false (cond (eqb b 0x3C) false (cond (eqb b 0x26) false (ltb b 0x80)))

-- what stands at any other byte: a reference, a character of several bytes, or nothing that may
unfoldable pub longer : List ℕ → Option (ℕ × ℕ)
longer s = cond (eqb (byte s 0) 0x26) (reference_at s) (cond (ltb (byte s 0) 0x80) None (char_at s))
