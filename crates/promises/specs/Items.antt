-- What the items of a document say of an answer's place and counts.
use Rattle.std.specs.Prelude.{ℕ, suc, ◌+◌, ◌-◌, ◌≡◌, List, [], ◌∷◌, ◌⊎◌, Bool, true, false, cond, eqb, ltb, length, Result, Ok, Err}
use Rattle.slices.specs.Text.{text}
use Rattle.slices.specs.Part.{part_of}
use Rattle.elements.specs.Names.{element_no}
use Rattle.guideline.specs.Kinds.{kind_of}
use Rattle.prolog.specs.Prolog.{begin}
use Rattle.items.specs.declared.Item.{Item}
use Rattle.items.specs.declared.Item.TheVariants.{Start, Empty, End, Text, Comment, Unreadable}
use Rattle.reader.specs.Items.{Placed, items_from}

-- the items of a document; none where its XML declaration is unreadable
unfoldable pub items_by : List ℕ → Result ℕ ℕ → List Placed
items_by doc (Ok n) = items_from doc n
items_by doc (Err p) = []

unfoldable pub items_in : List ℕ → List Placed
items_in doc = items_by doc (begin doc)

-- one of the items stands at a place
unfoldable pub stands_at : ℕ → List Placed → Bool
stands_at place [] = false
stands_at place (x ∷ xs) = let rest = stands_at place xs in cond (eqb x.at place) true rest

-- "item or length": at the length, at an item, or at the XML declaration, which is read before the items
abbrev pub PlaceOf : List ℕ → ℕ → Type 0
PlaceOf doc place = (place ≡ length doc) ⊎ ((stands_at place (items_in doc) ≡ true) ⊎ (begin doc ≡ Err place))

-- the number of the element that an item starts, 0 for none: "An empty tag is a start and an end in one item."
unfoldable pub started_in : Item → List ℕ → ℕ
started_in (Start t) s = element_no (part_of s 1 t.name)
started_in (Empty t) s = element_no (part_of s 1 t.name)
started_in (End n e) s = 0
started_in (Text white e) s = 0
started_in (Comment e) s = 0
started_in (Unreadable p) s = 0

-- the items before a place
unfoldable pub before : ℕ → List Placed → List Placed
before place [] = []
before place (x ∷ xs) = let rest = before place xs in cond (ltb x.at place) (x ∷ rest) rest

-- how many items start this element
unfoldable pub starts : ℕ → List Placed → ℕ
starts element [] = 0
starts element (x ∷ xs) = let rest = starts element xs in cond (eqb (started_in x.item x.rest) element) (suc rest) rest

-- the kind that the first root start among them tells
unfoldable pub kind_in : List Placed → ℕ
kind_in [] = 0
kind_in (x ∷ xs) = let rest = kind_in xs in cond (eqb (kind_of (started_in x.item x.rest)) 0) rest (kind_of (started_in x.item x.rest))

unfoldable pub interval_element : ℕ
interval_element = element_no (text "Interval")

-- how many elements an item starts, and how many it ends: "An empty tag is a start and an end in one item."
unfoldable pub opens_in : Item → ℕ
opens_in (Start t) = 1
opens_in (Empty t) = 1
opens_in (End n e) = 0
opens_in (Text white e) = 0
opens_in (Comment e) = 0
opens_in (Unreadable p) = 0

unfoldable pub shuts_in : Item → ℕ
shuts_in (Start t) = 0
shuts_in (Empty t) = 1
shuts_in (End n e) = 1
shuts_in (Text white e) = 0
shuts_in (Comment e) = 0
shuts_in (Unreadable p) = 0

unfoldable pub start_tags : List Placed → ℕ
start_tags [] = 0
start_tags (x ∷ xs) = opens_in x.item + start_tags xs

unfoldable pub end_tags : List Placed → ℕ
end_tags [] = 0
end_tags (x ∷ xs) = shuts_in x.item + end_tags xs

-- "the count of elements open before the faulty item": start tags less end tags, among the items before its place
unfoldable pub open_before : List ℕ → ℕ → ℕ
open_before doc place = start_tags (before place (items_in doc)) - end_tags (before place (items_in doc))
