-- Names and white space.
use Rattle.std.specs.Prelude.{ℕ, Bool, true, false, cond, leb, ltb, eqb}

-- "names .. begin with a letter or `_`": a to z; A to Z and `_`
unfoldable pub name_start : ℕ → Bool
name_start b = cond (leb 0x61 b) (leb b 0x7A) (cond (leb 0x41 b) (cond (leb b 0x5A) true (eqb b 0x5F)) false)

-- "names are ASCII letters, digits, `_ - . :`": a to z; A to Z and `_`; 0 to 9 and `:`; `-` and `.`
unfoldable pub name_byte : ℕ → Bool
name_byte b =
    cond (leb 0x61 b) (leb b 0x7A)
    (cond (leb 0x41 b) (cond (leb b 0x5A) true (eqb b 0x5F))
    (cond (leb 0x30 b) (leb b 0x3A)
    (cond (leb 0x2D b) (leb b 0x2E) false)))

-- "space, tab, CR and LF"
unfoldable pub white : ℕ → Bool
white b = cond (ltb 0x20 b) false (cond (eqb b 0x20) true (cond (eqb b 0x0A) true (cond (eqb b 0x0D) true (eqb b 0x09))))
