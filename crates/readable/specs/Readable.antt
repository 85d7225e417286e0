-- "The rest of the document after each item is read the same way", up to the first unreadable item.
use Rattle.std.specs.Prelude.{ℕ, ◌+◌, List, drop, Result, Ok, Err}
use Rattle.slices.specs.Walk.{WalkStep, go, stop, walk}
use Rattle.items.specs.Item.{item}
use Rattle.items.specs.declared.Item.{Item}
use Rattle.items.specs.declared.Item.TheVariants.{Start, Empty, End, Text, Comment, Unreadable}
use Rattle.prolog.specs.Prolog.{begin}

unfoldable pub pass_next : ℕ → Item → WalkStep ℕ ℕ
pass_next at (Start t) = go t.len (at + t.len)
pass_next at (Empty t) = go t.len (at + t.len)
pass_next at (End n e) = go e (at + e)
pass_next at (Text w e) = go e (at + e)
pass_next at (Comment e) = go e (at + e)
pass_next at (Unreadable p) = stop at

unfoldable pub pass_over : ℕ → ℕ
pass_over at = at

-- how many bytes of readable items stand at the front
unfoldable pub passed_bytes : List ℕ → ℕ
passed_bytes s = walk (item 0) pass_next pass_over 0 0 s

unfoldable pub readable_from : List ℕ → Result ℕ ℕ → ℕ
readable_from doc (Ok n) = n + passed_bytes (drop n doc)
readable_from doc (Err p) = p

-- the place of the first unreadable item, or the length
unfoldable pub readable : List ℕ → ℕ
readable doc = readable_from doc (begin doc)
