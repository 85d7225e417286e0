-- "After an optional byte order mark (EF BB BF), the document is a run of items. .. An XML declaration may stand before the first item:
-- version 1.0, then optionally encoding UTF-8 in any letter case, with single or double quotes; with anything else in it, it is an
-- unreadable item."
use Rattle.std.specs.Prelude.{ℕ, ◌+◌, List, [], ◌∷◌, Bool, false, cond, length, drop, leb, eqb, Result, Ok, Err}
use Rattle.refusals.specs.Refusals.{no_refusal, unreadable_item}
use Rattle.slices.specs.Bytes.{byte}
use Rattle.slices.specs.Run.{run}
use Rattle.slices.specs.Same.{same, begins}
use Rattle.slices.specs.Text.{text}
use Rattle.attributes.specs.Names.{white}
use Rattle.slices.specs.Part.{part_of}
use Rattle.attributes.specs.Attribute.{piece}
use Rattle.attributes.specs.declared.Piece.{Piece}
use Rattle.attributes.specs.declared.Piece.TheVariants.{Attribute, Close, CloseEmpty, Torn}

-- "in any letter case": A to Z as a to z
unfoldable pub lower : ℕ → ℕ
lower b = cond (leb 0x41 b) (cond (leb b 0x5A) (b + 32) b) b

-- `utf-8`
unfoldable pub utf : List ℕ → Bool
utf v =
    cond (eqb (length v) 5)
    (cond (eqb (lower (byte v 0)) 0x75)
    (cond (eqb (lower (byte v 1)) 0x74)
    (cond (eqb (lower (byte v 2)) 0x66)
    (cond (eqb (byte v 3) 0x2D) (eqb (byte v 4) 0x38) false) false) false) false)
    false

-- white space and `?>` at the place e, after what is read of the declaration
unfoldable pub declared_by : ℕ → List ℕ → ℕ → Result ℕ ℕ
declared_by before s e = cond (eqb (byte s e) 0x3F) (cond (eqb (byte s (e + 1)) 0x3E) (Ok (e + 2)) (Err before)) (Err before)

unfoldable pub declared : ℕ → List ℕ → ℕ → Result ℕ ℕ
declared before s a = declared_by before s (a + run white (drop a s))

-- an attribute after the version has to be the encoding
unfoldable pub encoded_by : ℕ → List ℕ → ℕ → Piece → Result ℕ ℕ
encoded_by before s a (Attribute w n v m e) =
    cond (same (part_of (drop a s) w n) (text "encoding"))
    (cond (utf (part_of (drop a s) v m)) (declared before s (a + e)) (Err before))
    (Err before)
encoded_by before s a (Close n) = declared before s a
encoded_by before s a (CloseEmpty n) = declared before s a
encoded_by before s a Torn = declared before s a

unfoldable pub encoded : ℕ → List ℕ → ℕ → Result ℕ ℕ
encoded before s a = encoded_by before s a (piece (drop a s))

-- the first attribute has to be the version
unfoldable pub declaration_by : ℕ → List ℕ → Piece → Result ℕ ℕ
declaration_by before s (Attribute w n v m e) =
    cond (same (part_of (drop 5 s) w n) (text "version"))
    (cond (same (part_of (drop 5 s) v m) (text "1.0")) (encoded before s (5 + e)) (Err before))
    (Err before)
declaration_by before s (Close n) = Err before
declaration_by before s (CloseEmpty n) = Err before
declaration_by before s Torn = Err before

unfoldable pub declaration : ℕ → List ℕ → Result ℕ ℕ
declaration before s = declaration_by before s (piece (drop 5 s))

-- "an optional byte order mark (EF BB BF)": 3 bytes, or none
unfoldable pub mark_len : List ℕ → ℕ
mark_len doc = cond (begins (0xEF ∷ 0xBB ∷ 0xBF ∷ []) doc) 3 0

-- the declaration is read from the byte after the mark on, so the place of the first item has the m bytes of the mark before it
unfoldable pub behind_mark : ℕ → Result ℕ ℕ → Result ℕ ℕ
behind_mark m (Ok n) = Ok (m + n)
behind_mark m (Err p) = Err p

-- after a mark of m bytes: a declaration if `<?xml` stands there, else the first item
unfoldable pub begin_after : List ℕ → ℕ → Result ℕ ℕ
begin_after doc m = cond (begins (text "<?xml") (drop m doc)) (behind_mark m (declaration m (drop m doc))) (Ok m)

-- where the items of a document begin
unfoldable pub begin : List ℕ → Result ℕ ℕ
begin doc = begin_after doc (mark_len doc)

-- 01's number for each answer: "with anything else in it, it is an unreadable item"; the refusal's place is in the answer itself
abbrev pub begin_refusal : Result ℕ ℕ → ℕ
begin_refusal (Ok n) = no_refusal
begin_refusal (Err p) = unreadable_item

-- how far the part before the first item reaches
abbrev pub begin_use : Result ℕ ℕ → ℕ
begin_use (Ok n) = n
begin_use (Err p) = 0
