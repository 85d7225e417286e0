-- "Readable Qty digits: bytes `0` to `9` between the quotes of the attribute `v` in a start or empty tag named `Qty` that is itself readable and stands
-- before the first unreadable item."
use Rattle.std.specs.Prelude.{ℕ, ◌+◌, ◌-◌, ◌≡◌, List, [], ◌∷◌, Bool, true, false, ◌⊎◌, length, Result, Ok, Err}
use Rattle.slices.specs.Bytes.{byte}
use Rattle.slices.specs.Same.{same}
use Rattle.slices.specs.Text.{text}
use Rattle.slices.specs.Part.{part_of}
use Rattle.items.specs.Item.{is_readable}
use Rattle.items.specs.Parts.{span_of}
use Rattle.items.specs.declared.Item.{Item}
use Rattle.items.specs.declared.Item.TheVariants.{Start, Empty, End, Text, Comment, Unreadable}
use Rattle.prolog.specs.Prolog.{begin}
use Rattle.characters.specs.References.{digit}
use Rattle.reader.specs.Items.{Placed, items_from}
use Rattle.digits.specs.Items.{InV, value_in}
use Rattle.digits.specs.Outside.{open_at}

-- "a start or empty tag named `Qty`", or any other name; s is the part of the document that begins with the item
unfoldable pub tag_named : List ℕ → Item → List ℕ → Bool
tag_named name (Start t) s = same (part_of s 1 t.name) name
tag_named name (Empty t) s = same (part_of s 1 t.name) name
tag_named name (End n e) s = false
tag_named name (Text w e) s = false
tag_named name (Comment e) s = false
tag_named name (Unreadable p) s = false

-- "between the quotes of the attribute `v`" of it: the place i, counted from the item's first byte
abbrev pub InTag : List ℕ → Item → List ℕ → ℕ → Type 0
InTag name x s i = (tag_named name x s ≡ true) × InV x i

-- of these items, where P tells which places of an item are meant: in the first, or in a later one if the first is readable
unfoldable pub InTags : (Item → List ℕ → ℕ → Type 0) → List Placed → ℕ → Type 0
InTags P [] p = ⊥
InTags P (x ∷ xs) p = ((i : ℕ) × (p ≡ x.at + i) × P x.item x.rest i) ⊎ ((is_readable x.item ≡ true) × InTags P xs p)

-- of the items of a document, of which there are none where the XML declaration is unreadable
unfoldable pub InTagsAfter : (Item → List ℕ → ℕ → Type 0) → List ℕ → Result ℕ ℕ → ℕ → Type 0
InTagsAfter P doc (Ok n) p = InTags P (items_from doc n) p
InTagsAfter P doc (Err q) p = ⊥

abbrev pub named_qty : Item → List ℕ → Bool
named_qty x s = tag_named (text "Qty") x s

-- K4: "digits inside a reference no longer count among the readable Qty digits": in the value none is open at the place
abbrev pub InQty : Item → List ℕ → ℕ → Type 0
InQty x s i = InTag (text "Qty") x s i × (open_at false (value_in s (span_of x)) (i - (span_of x).start) ≡ false)

unfoldable pub QtyDigit : List ℕ → ℕ → Type 0
QtyDigit doc p = (digit (byte doc p) ≡ true) × InTagsAfter InQty doc (begin doc) p

-- "Two documents of equal length that differ only in digits of readable Qty values": at each place the bytes are equal, or one of them is a readable Qty
-- digit and the other a digit.
pub record DifferInQty (x y : List ℕ) : Type 0 where
  pub long : length x ≡ length y
  pub places : (p : ℕ) → (byte x p ≡ byte y p) ⊎ ((QtyDigit x p × (digit (byte y p) ≡ true)) ⊎ (QtyDigit y p × (digit (byte x p) ≡ true)))
