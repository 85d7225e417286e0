-- What the items of a document show in a table of views: "start and length between the quotes, spaces dropped where the row is collapsed; 0 and 0 where absent".
use Rattle.std.specs.Prelude.{ℕ, ◌+◌, ◌≤◌, List, [], ◌∷◌, Bool, true, false, cond, eqb, length, get_or, set}
use Rattle.slices.specs.Part.{part_of}
use Rattle.slices.specs.declared.Span.{Span}
use Rattle.trims.specs.Trim.{lead_of, trimmed_of}
use Rattle.elements.specs.Names.{element_no}
use Rattle.tags.specs.declared.Dtd.{Dtd}
use Rattle.items.specs.declared.Tag.{Tag}
use Rattle.items.specs.declared.Item.{Item}
use Rattle.items.specs.declared.Item.TheVariants.{Start, Empty, End, Text, Comment, Unreadable}
use Rattle.columns.specs.Columns.{collapsed, role_of, root_role, series_role}
use Rattle.states.specs.Attributes.{there, asks_v, asks_scheme}
use Rattle.reader.specs.Items.{Placed}
use Rattle.reader.specs.Rows.{quoted}
use Rattle.views.specs.Layout.{one_if, values_of, first_pair, pair_in, row_named, cell_of}

-- ---- a value

-- where it starts in the document, and its length; its item is at the place `at`, and s begins with it
unfoldable pub value_start : Bool → ℕ → Span → List ℕ → ℕ
value_start drops at x s = cond (there x) (cond drops (at + x.start + lead_of (quoted x s)) (at + x.start)) 0

unfoldable pub value_length : Bool → Span → List ℕ → ℕ
value_length drops x s = cond (there x) (cond drops (length (trimmed_of (quoted x s))) x.len) 0

unfoldable pub with_pair : List ℕ → ℕ → ℕ → ℕ → List ℕ
with_pair t k start len = set (set t (cell_of k) start) (cell_of k + 1) len

-- the part of the document that a pair shows
unfoldable pub pair_view : List ℕ → List ℕ → ℕ → List ℕ
pair_view doc t k = part_of doc (get_or t (cell_of k) 0) (get_or t (cell_of k + 1) 0)

unfoldable pub with_value : ℕ → Bool → ℕ → Span → List ℕ → List ℕ → List ℕ
with_value k drops at x s t = with_pair t k (value_start drops at x s) (value_length drops x s)

-- ---- a tag

-- the attributes that a root may have, of which nothing is dropped
unfoldable pub root_shown : ℕ → ℕ → Dtd → List ℕ → List ℕ → List ℕ
root_shown k at d s t =
    with_value (k + 2) false at d.message s (with_value (k + 1) false at d.release s (with_value k false at d.version s t))

-- `v`, and codingScheme, which is collapsed in every row that has it
unfoldable pub v_shown : ℕ → ℕ → ℕ → Span → List ℕ → List ℕ → List ℕ
v_shown k at w x s t = cond (asks_v w) (with_value k (collapsed w) at x s t) t

unfoldable pub scheme_shown : ℕ → ℕ → ℕ → Span → List ℕ → List ℕ → List ℕ
scheme_shown k at w x s t = cond (asks_scheme w) (with_value (k + one_if (asks_v w)) true at x s t) t

-- a tag of row w, whose first pair is k
unfoldable pub tag_shown : ℕ → ℕ → ℕ → Tag → List ℕ → List ℕ → List ℕ
tag_shown k at w tag s t =
    cond (eqb (role_of w) root_role) (root_shown k at tag.dtd s t) (scheme_shown k at w tag.coding s (v_shown k at w tag.v s t))

-- ---- an item

-- the row of the element that a tag opens
unfoldable pub tag_row : List ℕ → Tag → List ℕ → ℕ
tag_row rows tag s = row_named (element_no (part_of s 1 tag.name)) rows

-- n series before it, so many after it, a tag of row w
unfoldable pub series_at : ℕ → ℕ → ℕ
series_at w n = cond (eqb (role_of w) series_role) (n + 1) n

unfoldable pub tag_counts : List ℕ → Tag → List ℕ → ℕ → ℕ
tag_counts rows tag s n = series_at (get_or rows (tag_row rows tag s) 0) n

unfoldable pub tag_shows : List ℕ → ℕ → Tag → List ℕ → ℕ → List ℕ → List ℕ
tag_shows rows at tag s n t =
    let q = tag_row rows tag s in
    let w = get_or rows q 0 in
    cond (eqb (values_of w) 0) t (tag_shown (pair_in (first_pair rows q) (series_at w n)) at w tag s t)

-- start and empty tags alone count and show something
unfoldable pub item_counts : List ℕ → Item → List ℕ → ℕ → ℕ
item_counts rows (Start tag) s n = tag_counts rows tag s n
item_counts rows (Empty tag) s n = tag_counts rows tag s n
item_counts rows (End k e) s n = n
item_counts rows (Text white e) s n = n
item_counts rows (Comment e) s n = n
item_counts rows (Unreadable p) s n = n

unfoldable pub item_shows : List ℕ → ℕ → Item → List ℕ → ℕ → List ℕ → List ℕ
item_shows rows at (Start tag) s n t = tag_shows rows at tag s n t
item_shows rows at (Empty tag) s n t = tag_shows rows at tag s n t
item_shows rows at (End k e) s n t = t
item_shows rows at (Text white e) s n t = t
item_shows rows at (Comment e) s n t = t
item_shows rows at (Unreadable p) s n t = t

-- ---- the items that are left, n series before them

unfoldable pub items_shown : List ℕ → List Placed → ℕ → List ℕ → List ℕ
items_shown rows [] n t = t
items_shown rows (x ∷ xs) n t = items_shown rows xs (item_counts rows x.item x.rest n) (item_shows rows x.at x.item x.rest n t)

-- ---- for private contracts: the values of a tag at the place `at` end where a u32 can tell

abbrev pub SpanInside : ℕ → Span → Type 0
SpanInside at x = at + (x.start + x.len) ≤ 4294967295

pub record TagInside (at : ℕ) (t : Tag) : Type 0 where
  pub v : SpanInside at t.v
  pub coding : SpanInside at t.coding
  pub version : SpanInside at t.dtd.version
  pub release : SpanInside at t.dtd.release
  pub message : SpanInside at t.dtd.message

unfoldable pub ItemInside : ℕ → Item → Type 0
ItemInside at (Start t) = TagInside at t
ItemInside at (Empty t) = TagInside at t
ItemInside at (End n e) = Unit {0}
ItemInside at (Text white e) = Unit {0}
ItemInside at (Comment e) = Unit {0}
ItemInside at (Unreadable p) = Unit {0}
