-- "each with the same number of bytes and characters, with values that before and after are legal XML characters in UTF-8 and hold no `&`, `<`, quote or
-- control byte": a TimeSeriesIdentification, the bytes between its quotes, and one that is put for it.
use Rattle.std.specs.Prelude.{ℕ, ◌≡◌, List, Bool, true, false, cond, eqb, ltb, length}
use Rattle.slices.specs.Run.{run}
use Rattle.characters.specs.Says.{all_chars, says}
use Rattle.attributes.specs.Attribute.{quote}

-- "no `&`, `<`, quote or control byte": both quotes, and 00 to 1F and 7F
unfoldable pub id_byte : ℕ → Bool
id_byte b =
    cond (eqb b 0x26) false
    (cond (eqb b 0x3C) false
    (cond (quote b) false
    (cond (ltb b 0x20) false
    (cond (eqb b 0x7F) false true))))

-- "legal XML characters in UTF-8", and each byte is such a one
pub record Clean (v : List ℕ) : Type 0 where
  pub legal : all_chars v ≡ true
  pub bytes : run id_byte v ≡ length v

-- b is put for a
pub record PutFor (a b : List ℕ) : Type 0 where
  pub before : Clean a
  pub after : Clean b
  pub bytes : length a ≡ length b
  pub characters : length (says a) ≡ length (says b)
