-- How a content is written down as a document: its items are tags, white text and comments, and the tags spell it.
use Rattle.std.specs.Prelude.{ℕ, ◌≡◌, List, [], ◌∷◌, ◌++◌, Bool, true, false, cond, Ok}
use Rattle.slices.specs.Part.{part_of}
use Rattle.elements.specs.Names.{element_no}
use Rattle.slices.specs.declared.Span.{Span}
use Rattle.tags.specs.declared.Dtd.{Dtd}
use Rattle.items.specs.declared.Tag.{Tag}
use Rattle.items.specs.declared.Item.{Item}
use Rattle.items.specs.declared.Item.TheVariants.{Start, Empty, End, Text, Comment, Unreadable}
use Rattle.prolog.specs.Prolog.{begin}
use Rattle.guideline.specs.Rows.{rows_of}
use Rattle.states.specs.Attributes.{there}
use Rattle.reader.specs.Items.{Placed, items_from}
use Rattle.trees.specs.Trees.{Sign, Opens, Closes, Trees, spell}
use Rattle.contents.specs.Said.{AttributeValue, Absent, Given, DtdSaid, TagSaid}

-- the value of an attribute of a tag; s is the part of the document that begins with the tag
unfoldable pub value_given : Span → List ℕ → AttributeValue
value_given x s = cond (there x) (Given (part_of s x.start x.len)) Absent

unfoldable pub dtd_of_tag : Dtd → List ℕ → DtdSaid
dtd_of_tag d s = record { version = value_given d.version s; release = value_given d.release s; message = value_given d.message s }

unfoldable pub said_of_tag : Tag → List ℕ → TagSaid
said_of_tag t s =
    record { v = value_given t.v s; scheme = value_given t.coding s; dtd = dtd_of_tag t.dtd s; others = t.others; passable = t.passable }

unfoldable pub element_in : ℕ → ℕ → List ℕ → ℕ
element_in from len s = element_no (part_of s from len)

-- "An empty tag is a start and an end in one item."; white text and comments say nothing
unfoldable pub signs_by : Item → List ℕ → List (Sign TagSaid)
signs_by (Start t) s = Opens (said_of_tag t s) (element_in 1 t.name s) ∷ []
signs_by (Empty t) s = Opens (said_of_tag t s) (element_in 1 t.name s) ∷ Closes (element_in 1 t.name s) ∷ []
signs_by (End n e) s = Closes (element_in 2 n s) ∷ []
signs_by (Text white e) s = []
signs_by (Comment e) s = []
signs_by (Unreadable p) s = []

unfoldable pub signs_of : List Placed → List (Sign TagSaid)
signs_of [] = []
signs_of (x ∷ xs) = signs_by x.item x.rest ++ signs_of xs

-- an item that may stand in a document: readable, and no text but white text
unfoldable pub allowed : Item → Bool
allowed (Start t) = true
allowed (Empty t) = true
allowed (End n e) = true
allowed (Text white e) = white
allowed (Comment e) = true
allowed (Unreadable p) = false

unfoldable pub AllAllowed : List Placed → Type 0
AllAllowed [] = Unit {0}
AllAllowed (x ∷ xs) = (allowed x.item ≡ true) × AllAllowed xs

-- The document spells the content c, elements one in another, by the rows of a kind.
pub record Spells (doc : List ℕ) (kind : ℕ) (c : Trees TagSaid) : Type 0 where
  pub from : ℕ
  pub begins : begin doc ≡ Ok from
  pub items : AllAllowed (items_from doc from)
  pub tags : signs_of (items_from doc from) ≡ spell (rows_of kind) c

-- The tags of two documents say the same: they differ in white text, in comments, in quotes, in the order of attributes, in white space in tags, or in an empty
-- tag that stands for a start tag and its end.
pub record SpellAlike (x y : List ℕ) : Type 0 where
  pub from : ℕ
  pub begins : begin x ≡ Ok from
  pub items : AllAllowed (items_from x from)
  pub other_from : ℕ
  pub other-begins : begin y ≡ Ok other_from
  pub other_items : AllAllowed (items_from y other_from)
  pub tags : signs_of (items_from x from) ≡ signs_of (items_from y other_from)
