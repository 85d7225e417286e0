-- What an item has: its name, where its value stands, and whether it moves nothing.
use Rattle.std.specs.Prelude.{ℕ, List, Bool, true, false}
use Rattle.slices.specs.Part.{part_of}
use Rattle.slices.specs.declared.Span.{Span}
use Rattle.items.specs.declared.Item.{Item}
use Rattle.items.specs.declared.Item.TheVariants.{Start, Empty, End, Text, Comment, Unreadable}

-- the name of a tag; s begins with the item, and no bytes are the name of what is no tag
unfoldable pub name_in : Item → List ℕ → List ℕ
name_in (Start t) s = part_of s 1 t.name
name_in (Empty t) s = part_of s 1 t.name
name_in (End n e) s = part_of s 2 n
name_in (Text white e) s = part_of s 0 0
name_in (Comment e) s = part_of s 0 0
name_in (Unreadable p) s = part_of s 0 0

-- where the value of `v` stands in the item
unfoldable pub span_of : Item → Span
span_of (Start t) = t.v
span_of (Empty t) = t.v
span_of (End n e) = record { start = 0; len = 0 }
span_of (Text w e) = record { start = 0; len = 0 }
span_of (Comment e) = record { start = 0; len = 0 }
span_of (Unreadable p) = record { start = 0; len = 0 }

-- white text and comments, which move nothing
unfoldable pub passed : Item → Bool
passed (Start t) = false
passed (Empty t) = false
passed (End n e) = false
passed (Text white e) = white
passed (Comment e) = true
passed (Unreadable p) = false
