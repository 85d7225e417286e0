-- Short texts and values, written out. Assumes nothing.
use mathlib.Core.Path.{◌≡◌, refl}
use mathlib.Core.List.{[], ◌∷◌, ◌++◌}
use lib.ListN.{length}
use Rattle.slices.specs.Bytes.{byte}
use Rattle.slices.specs.Part.{part_of}
use Rattle.slices.specs.Run.{run}
use Rattle.slices.specs.Same.{same, begins}
use Rattle.slices.specs.Text.{text}
use Rattle.characters.specs.Utf8.{seq_len, control, single, char_at}
use Rattle.characters.specs.References.{within, xml_char, digit, hex_digit, ref_digit, base, digit_value, number_by, char_by, numbered_to, numbered_at, named_at, reference_at}
use Rattle.characters.specs.Says.{met, char_of, said_by, said_at, says_after, says}
use Rattle.escapes.specs.Escaped.{escaped_byte, escaped}
use Rattle.escapes.specs.Spelled.{utf8, spelled, unescaped, chars_after, chars_of}

-- "`&amp;`, `&lt;`, `&quot;`, `&#9;`, `&#10;`, `&#13;`"
pub six : escaped (0x26 ∷ 0x3C ∷ 0x22 ∷ 0x09 ∷ 0x0A ∷ 0x0D ∷ []) ≡ text "&amp;&lt;&quot;&#9;&#10;&#13;"
unfolding escaped escaped_byte
six = refl

-- `'`, `>` and characters from 7F on stay as they are: here 7F, `ß` and U+10000
pub others : escaped (text "'>" ++ 0x7F ∷ 0xC3 ∷ 0x9F ∷ 0xF0 ∷ 0x90 ∷ 0x80 ∷ 0x80 ∷ []) ≡ text "'>" ++ 0x7F ∷ 0xC3 ∷ 0x9F ∷ 0xF0 ∷ 0x90 ∷ 0x80 ∷ 0x80 ∷ []
unfolding escaped escaped_byte
others = refl

-- as a text, `A&#48;1` is seven characters
pub literal : (escaped (text "A&#48;1") ≡ text "A&amp;#48;1") × (length (chars_of (text "A&#48;1")) ≡ 7)
unfolding escaped escaped_byte chars_of chars_after char_at seq_len single control byte
literal = (refl, refl)

-- as a value of a document it says three, of a byte each; `&#x20AC;` says one, of three bytes
pub meant : (unescaped (text "A&#48;1") ≡ text "A01") × (unescaped (text "&#x20AC;") ≡ 0xE2 ∷ 0x82 ∷ 0xAC ∷ [])
unfolding unescaped spelled utf8 says says_after said_at said_by char_of met char_at seq_len single control byte reference_at named_at numbered_at numbered_to begins same run ref_digit digit hex_digit part_of number_by base digit_value char_by xml_char within
meant = (refl, refl)
