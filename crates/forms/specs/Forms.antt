-- Forms of values that are judged character by character.
use Rattle.std.specs.Prelude.{ℕ, List, [], ◌∷◌, ◌++◌, Bool, leb, length, replicate}
use Rattle.slices.specs.Same.{same}
use Rattle.slices.specs.Text.{text}
use Rattle.characters.specs.References.{digit}
use Rattle.pictures.specs.Picture.{capital_or_digit, party_char, first_three, held}

-- "Identifications: 0 to 35 characters"
unfoldable pub identification : List ℕ → Bool
identification l = leb (length l) 35

-- "Market partner IDs: thirteen digits"
unfoldable pub market_partner : List ℕ → Bool
market_partner l = held (replicate 13 digit) l

-- K2: "its object is ResourceObject, 0 to 36 characters"; GridElement has the same type
unfoldable pub grid_element : List ℕ → Bool
grid_element l = leb (length l) 36

-- "ResourceObject: A, B or C, nine of A-Z or 0-9, one digit"
unfoldable pub resource_object : List ℕ → Bool
resource_object l = held (first_three ∷ replicate 9 capital_or_digit ++ digit ∷ []) l

-- "InParty, OutParty: sixteen of A-Z, 0-9, `-`"
unfoldable pub party : List ℕ → Bool
party l = held (replicate 16 party_char) l

-- "Resolution is `PT15M`"
unfoldable pub quarter_hour : List ℕ → Bool
quarter_hour l = same (text "PT15M") l
