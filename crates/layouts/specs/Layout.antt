-- K6: "The layout is fixed: no declaration, no text between tags, double quotes, guideline order of attributes, empty tags for single values".
use Rattle.std.specs.Prelude.{ℕ, ◌-◌, ◌≤◌, ◌≡◌, List, [], ◌∷◌, ◌++◌, Bool, true, false, cond, length, get_or, Some}
use Rattle.slices.specs.Text.{text}
use Rattle.attributes.specs.Attribute.{value}
use Rattle.elements.specs.Names.{names}
use Rattle.structure.specs.Rows.{name_of}
use Rattle.states.specs.Attributes.{asks_v}
use Rattle.trees.specs.Trees.{Trees, none, element}
use Rattle.contents.specs.Said.{AttributeValue, Absent, Given, TagSaid}

-- ---- a tag

-- the name of an element, by its number
unfoldable pub element_name : ℕ → List ℕ
element_name e = get_or names (e - 1) []

-- an attribute that is there, after what opens its value, as ` v="`: "double quotes", and one space before it
unfoldable pub attribute_text : List ℕ → AttributeValue → List ℕ
attribute_text opens Absent = []
attribute_text opens (Given b) = opens ++ (b ++ text "\"")

-- "guideline order of attributes"
unfoldable pub attributes_text : TagSaid → List ℕ
attributes_text s =
    attribute_text (text " DtdVersion=\"") s.dtd.version
    ++ (attribute_text (text " DtdRelease=\"") s.dtd.release
    ++ (attribute_text (text " DtdBDEWNachrichtenVersion=\"") s.dtd.message
    ++ (attribute_text (text " v=\"") s.v
    ++ attribute_text (text " codingScheme=\"") s.scheme)))

-- a tag of the element e, up to its closing `>` or `/>`
unfoldable pub tag_text : ℕ → TagSaid → List ℕ → List ℕ
tag_text e s close = text "<" ++ (element_name e ++ (attributes_text s ++ close))

unfoldable pub end_text : ℕ → List ℕ
end_text e = text "</" ++ (element_name e ++ text ">")

-- ---- a content

-- "empty tags for single values": an element with a `v` is one empty tag, any other has both tags around what stands in it; "no text between tags"
unfoldable pub layout_of : List ℕ → Trees TagSaid → List ℕ
layout_of rows none = []
layout_of rows (element r tag inner after) =
    let w = get_or rows r 0 in
    cond (asks_v w)
    (tag_text (name_of w) tag (text "/>"))
    (tag_text (name_of w) tag (text ">") ++ (layout_of rows inner ++ end_text (name_of w)))
    ++ layout_of rows after

-- ---- a content that can be laid out so

-- a value that may stand between double quotes, whatever follows
unfoldable pub Quotable : List ℕ → Type 0
Quotable b = (r : List ℕ) → value 0x22 (b ++ (0x22 ∷ r)) ≡ Some (length b)

unfoldable pub QuotableIn : AttributeValue → Type 0
QuotableIn Absent = Unit {0}
QuotableIn (Given b) = Quotable b

-- a tag that says nothing but what the guideline knows, by values that can be quoted
pub record TagWritable (s : TagSaid) : Type 0 where
  pub version : QuotableIn s.dtd.version
  pub release : QuotableIn s.dtd.release
  pub message : QuotableIn s.dtd.message
  pub v : QuotableIn s.v
  pub scheme : QuotableIn s.scheme
  pub others : s.others ≡ false
  pub passable : s.passable ≡ true

-- the number of an element that has a name
pub record HasName (e : ℕ) : Type 0 where
  pub least : 1 ≤ e
  pub most : e ≤ length names

-- each element has a name, its tag can be written, and nothing stands in one with a `v`
unfoldable pub Writable : List ℕ → Trees TagSaid → Type 0
Writable rows none = Unit {0}
Writable rows (element r tag inner after) =
    HasName (name_of (get_or rows r 0)) × TagWritable tag × (asks_v (get_or rows r 0) ≡ true → inner ≡ none) × Writable rows inner × Writable rows after
