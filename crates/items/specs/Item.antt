-- "An item is either one of five kinds or a refusal with its place: start tag, empty tag, end tag, text, comment."
-- The item at the front of s, the part of the document after its first `before` bytes.
use Rattle.std.specs.Prelude.{ℕ, ◌+◌, List, Bool, true, false, cond, drop, eqb, Option, Some, None}
use Rattle.refusals.specs.Refusals.{no_refusal, unreadable_item, not_due}
use Rattle.slices.specs.Bytes.{byte}
use Rattle.slices.specs.Run.{run}
use Rattle.attributes.specs.Names.{name_start, name_byte, white}
use Rattle.tags.specs.Known.{none_known}
use Rattle.tags.specs.Tail.{Ends, closed, torn, ends, kept_of, twice}
use Rattle.tags.specs.declared.Known.{Known}
use Rattle.items.specs.Comment.{comment}
use Rattle.items.specs.Text.{text_item}
use Rattle.items.specs.declared.Tag.{Tag}
use Rattle.items.specs.declared.Item.{Item}
use Rattle.items.specs.declared.Item.TheVariants.{Start, Empty, End, Text, Comment, Unreadable}

unfoldable pub tag_of : ℕ → Known → ℕ → Tag
tag_of n k e =
    record { name = n; v = k.v; coding = k.coding; dtd = k.dtd; others = k.others; passable = k.passable; len = e }

-- `<`, a name of n bytes, and what follows it: "An attribute twice in a tag .. makes the item unreadable."
unfoldable pub tag_item : ℕ → ℕ → Ends → Item
tag_item before n (closed more empty e) =
    cond (twice more) (Unreadable before) (cond empty (Empty (tag_of n (kept_of none_known more) e)) (Start (tag_of n (kept_of none_known more) e)))
tag_item before n torn = Unreadable before

unfoldable pub start_tag : ℕ → List ℕ → Item
start_tag before s =
    cond (name_start (byte s 1)) (tag_item before (run name_byte (drop 1 s)) (ends s (1 + run name_byte (drop 1 s)))) (Unreadable before)

-- `</`, a name of n bytes, white space, and `>` at the place e
unfoldable pub end_close : ℕ → List ℕ → ℕ → ℕ → Item
end_close before s n e = cond (eqb (byte s e) 0x3E) (End n (e + 1)) (Unreadable before)

unfoldable pub end_name : ℕ → List ℕ → ℕ → Item
end_name before s n = end_close before s n (2 + n + run white (drop (2 + n) s))

unfoldable pub end_tag : ℕ → List ℕ → Item
end_tag before s = cond (name_start (byte s 2)) (end_name before s (run name_byte (drop 2 s))) (Unreadable before)

-- `<!--`, and the rest of the comment
unfoldable pub comment_item : ℕ → Option ℕ → Item
comment_item before (Some e) = Comment (4 + e)
comment_item before None = Unreadable before

unfoldable pub comment_tag : ℕ → List ℕ → Item
comment_tag before s =
    cond (eqb (byte s 2) 0x2D) (cond (eqb (byte s 3) 0x2D) (comment_item before (comment (drop 4 s))) (Unreadable before)) (Unreadable before)

-- "no DOCTYPE, CDATA or other processing instruction": after `<!` only a comment, after `<?` nothing
unfoldable pub item : ℕ → List ℕ → Item
item before s =
    cond (eqb (byte s 0) 0x3C)
    (cond (eqb (byte s 1) 0x2F) (end_tag before s)
    (cond (eqb (byte s 1) 0x21) (comment_tag before s)
    (start_tag before s)))
    (text_item before s)

-- whether it is one of the five kinds; the one that is none is "an unreadable item"
abbrev pub is_readable : Item → Bool
is_readable (Start t) = true
is_readable (Empty t) = true
is_readable (End n e) = true
is_readable (Text w e) = true
is_readable (Comment e) = true
is_readable (Unreadable p) = false

-- 01's number for each answer, by the item alone: "Only space, tab, CR and LF are allowed in it (text with other XML characters is refusal 3 ..)"; "2: the item
-- is unreadable". What else an item is refused with hangs on the items before it
abbrev pub item_refusal : Item → ℕ
item_refusal (Start t) = no_refusal
item_refusal (Empty t) = no_refusal
item_refusal (End n e) = no_refusal
item_refusal (Text w e) = cond w no_refusal not_due
item_refusal (Comment e) = no_refusal
item_refusal (Unreadable p) = unreadable_item

-- how many bytes a reader passes
abbrev pub item_end : Item → ℕ
item_end (Start t) = t.len
item_end (Empty t) = t.len
item_end (End n e) = e
item_end (Text w e) = e
item_end (Comment e) = e
item_end (Unreadable p) = 1

-- where the value of `v` ends
abbrev pub item_value : Item → ℕ
item_value (Start t) = t.v.start + t.v.len
item_value (Empty t) = t.v.start + t.v.len
item_value (End n e) = 0
item_value (Text w e) = 0
item_value (Comment e) = 0
item_value (Unreadable p) = 0

abbrev pub read_end : Option ℕ → ℕ
read_end (Some e) = e
read_end None = 1
