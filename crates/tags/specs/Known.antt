-- What is kept of a tag's attributes: the values of those that the guideline knows, and what is needed of the others.
use Rattle.std.specs.Prelude.{ℕ, ◌+◌, List, Bool, true, false, cond, ltb}
use Rattle.slices.specs.Same.{same, begins}
use Rattle.slices.specs.Text.{text}
use Rattle.slices.specs.declared.Span.{Span}
use Rattle.tags.specs.declared.Dtd.{Dtd}
use Rattle.tags.specs.declared.Known.{Known}

-- "On the root, attributes named `xmlns` or beginning `xmlns:` or `xsi:` are passed over."
unfoldable pub passed_over : List ℕ → Bool
passed_over n = cond (same n (text "xmlns")) true (cond (begins (text "xmlns:") n) true (begins (text "xsi:") n))

-- No value starts at 0, where a tag has its `<`: so 0 is the start of a value that is not there.
unfoldable pub absent : Span
absent = record { start = 0; len = 0 }

-- the attributes that a root may have; which of them it has is told by its kind
unfoldable pub dtd_name : List ℕ → Bool
dtd_name n =
    cond (same n (text "DtdBDEWNachrichtenVersion")) true (cond (same n (text "DtdVersion")) true (same n (text "DtdRelease")))

unfoldable pub no_dtd : Dtd
no_dtd = record { version = absent; release = absent; message = absent }

-- one of the three names, and its value
unfoldable pub with_dtd : Dtd → List ℕ → Span → Dtd
with_dtd d name value =
    cond (same name (text "DtdVersion")) (record { version = value; release = d.release; message = d.message })
    (cond (same name (text "DtdRelease")) (record { version = d.version; release = value; message = d.message })
    (record { version = d.version; release = d.release; message = value }))

unfoldable pub none_known : Known
none_known = record { v = absent; coding = absent; dtd = no_dtd; others = false; passable = true; many = 0 }

-- none, one, or more than one
unfoldable pub up_to_two : ℕ → ℕ
up_to_two many = cond (ltb many 2) (many + 1) many

-- the attribute's name is one of the guideline's, or another
unfoldable pub with_attribute : Known → List ℕ → Span → Known
with_attribute k name value =
    cond (same name (text "v"))
    (record { v = value; coding = k.coding; dtd = k.dtd; others = k.others; passable = k.passable; many = up_to_two k.many })
    (cond (same name (text "codingScheme"))
    (record { v = k.v; coding = value; dtd = k.dtd; others = k.others; passable = k.passable; many = up_to_two k.many })
    (cond (dtd_name name)
    (record { v = k.v; coding = k.coding; dtd = with_dtd k.dtd name value; others = k.others; passable = k.passable; many = up_to_two k.many })
    (record { v = k.v; coding = k.coding; dtd = k.dtd; others = true; passable = cond (passed_over name) k.passable false; many = up_to_two k.many })))
