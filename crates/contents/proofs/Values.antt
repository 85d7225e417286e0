-- What the tag of an element says, by where it stands in the document and by what it is; and that an element whose row asks for `v` has it.
-- Assumes nothing.
use Prim.Native.Nat.{ℕ}
use mathlib.Core.Path.{◌≡◌, refl, sym, ◌∙◌}
use mathlib.Core.List.{List}
use mathlib.Core.Bool.{Bool, true, false, cond, ◌&&◌}
use lib.ListN.{get_or}
use Rattle.lists.proofs.Cases.{zero-not-one}
use Rattle.slices.specs.Part.{part_of}
use Rattle.slices.specs.declared.Span.{Span}
use Rattle.items.specs.Parts.{span_of}
use Rattle.items.specs.declared.Item.{Item}
use Rattle.items.specs.declared.Item.TheVariants.{Start, Empty, End, Text, Comment, Unreadable}
use Rattle.states.specs.Attributes.{there, agree, asks_v, asks_scheme, demands_at, no_others}
use Rattle.reader.specs.Items.{Placed}
use Rattle.reader.specs.Rows.{quoted}
use Rattle.trees.specs.Trees.{Trees, none, element}
use Rattle.trees.proofs.Made.{both}
use Rattle.contents.specs.Said.{Absent, Given, TagSaid, given, bytes}
use Rattle.contents.specs.Spelled.{value_given, said_of_tag}
use Rattle.contents.specs.Legal.{Period, dtd_agrees, attributes_agree, element_fits, Each}
use Rattle.contents.proofs.Fill.{said_by_item, said_of, saying}

-- ---- the attributes of a tag

pub given-there : (x : Span) (s : List ℕ) → given (value_given x s) ≡ there x
unfolding value_given given
given-there x s = by (there x)
  where
    by : (t : Bool) → given (cond t (Given (part_of s x.start x.len)) Absent) ≡ t
    by true = refl
    by false = refl

pub there-bytes : (x : Span) (s : List ℕ) → there x ≡ true → bytes (value_given x s) ≡ part_of s x.start x.len
unfolding value_given bytes
there-bytes x s e = rw e

-- what a row asks for is there
pub asked-there : (a g : Bool) → agree a g ≡ true → a ≡ true → g ≡ true
unfolding agree
asked-there a g h e = rw e at h

-- ---- what an item says

pub as-quoted : (v : Span) (s : List ℕ) → part_of s v.start v.len ≡ quoted v s
unfolding quoted
as-quoted v s = refl

not_there : there (record { start = 0; len = 0 }) ≡ true → ⊥
unfolding there
not_there e = zero-not-one (cc)

item-bytes : (i : Item) (s : List ℕ) → there (span_of i) ≡ true → bytes (said_by_item i s).v ≡ quoted (span_of i) s
unfolding span_of said_by_item said_of_tag
item-bytes (Start t) s e = there-bytes t.v s e ∙ as-quoted t.v s
item-bytes (Empty t) s e = there-bytes t.v s e ∙ as-quoted t.v s
item-bytes (End n f) s e = absurd (not_there e)
item-bytes (Text w f) s e = absurd (not_there e)
item-bytes (Comment f) s e = absurd (not_there e)
item-bytes (Unreadable q) s e = absurd (not_there e)

pub said-bytes : (x : Placed) → there (span_of x.item) ≡ true → bytes (said_of x).v ≡ quoted (span_of x.item) x.rest
said-bytes x e = item-bytes x.item x.rest e

-- ---- values that have to be there

-- each element whose row asks for `v` has it
unfoldable pub HasValues : List ℕ → Trees Placed → Type 0
HasValues rows none = Unit {0}
HasValues rows (element q x inner after) =
    (asks_v (get_or rows q 0) ≡ true → there (span_of x.item) ≡ true) × HasValues rows inner × HasValues rows after

asked-given : (kind w : ℕ) (s : TagSaid) → attributes_agree kind w s ≡ true → asks_v w ≡ true → given s.v ≡ true
unfolding attributes_agree
asked-given kind w s e a =
    let v = agree (asks_v w) (given s.v) in
    let scheme = agree (asks_scheme w) (given s.scheme) in
    let dtd = dtd_agrees (demands_at kind w) s.dtd in
    let k = (both v scheme (both (v && scheme) dtd (both (v && scheme && dtd) (no_others w s.others s.passable) e).0).0).0 in
    asked-there (asks_v w) (given s.v) k a

given-item : (x : Item) (s : List ℕ) → given (said_by_item x s).v ≡ true → there (span_of x) ≡ true
unfolding said_by_item said_of_tag given span_of
given-item (Start t) s e = sym (given-there t.v s) ∙ e
given-item (Empty t) s e = sym (given-there t.v s) ∙ e
given-item (End n e) s h = absurd (zero-not-one (cc))
given-item (Text w e) s h = absurd (zero-not-one (cc))
given-item (Comment e) s h = absurd (zero-not-one (cc))
given-item (Unreadable p) s h = absurd (zero-not-one (cc))

pub each-given : (kind : ℕ) (q : Period) (rows : List ℕ) (kids : Trees Placed) → Each (element_fits kind q) rows (saying kids) → HasValues rows kids
unfolding Each HasValues saying element_fits
each-given kind q rows none e = tt
each-given kind q rows (element r x inner after) e = (
  (λ a. given-item x.item x.rest (asked-given kind (get_or rows r 0) (said_of x) (both (attributes_agree kind (get_or rows r 0) (said_of x)) _ e.0).0 a)),
  each-given kind q rows inner e.1,
  each-given kind q rows after e.2,
)
