-- What may stand behind an item, so that it is whole.
use Rattle.std.specs.Prelude.{ℕ, ◌≡◌, List, [], ◌∷◌}
use Rattle.items.specs.declared.Item.{Item}
use Rattle.items.specs.declared.Item.TheVariants.{Start, Empty, End, Text, Comment, Unreadable}

-- "Text is a longest run of bytes without `<`.": it ends where the next byte is `<`, or where there is none
unfoldable pub TextEnds : List ℕ → Type 0
TextEnds [] = Unit {0}
TextEnds (b ∷ q) = b ≡ 0x3C

-- the item ends where q begins: a tag and a comment by their own last byte, a text by what follows it; an unreadable item has no end
unfoldable pub EndsBefore : Item → List ℕ → Type 0
EndsBefore (Start t) q = Unit {0}
EndsBefore (Empty t) q = Unit {0}
EndsBefore (End n e) q = Unit {0}
EndsBefore (Text white e) q = TextEnds q
EndsBefore (Comment e) q = Unit {0}
EndsBefore (Unreadable p) q = ⊥
