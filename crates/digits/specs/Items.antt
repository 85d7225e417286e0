-- A part of the document in which values of `v` are changed, seen from the item at its front.
use Rattle.std.specs.Prelude.{ℕ, ◌+◌, ◌≤◌, ◌<◌, ◌≡◌, List, ◌⊎◌, length}
use Rattle.slices.specs.Bytes.{byte}
use Rattle.slices.specs.Part.{part_of}
use Rattle.slices.specs.declared.Span.{Span}
use Rattle.tags.specs.declared.Dtd.{Dtd}
use Rattle.items.specs.Item.{item_end}
use Rattle.items.specs.declared.Tag.{Tag}
use Rattle.items.specs.declared.Item.{Item}
use Rattle.items.specs.declared.Item.TheVariants.{Start, Empty, End, Text, Comment, Unreadable}

abbrev pub InSpan : ℕ → Span → Type 0
InSpan i x = (x.start ≤ i) × (i < x.start + x.len)

-- "between the quotes of the attribute `v` in a start or empty tag": the place i, counted from the item's first byte
unfoldable pub InV : Item → ℕ → Type 0
InV (Start t) i = InSpan i t.v
InV (Empty t) i = InSpan i t.v
InV (End n e) i = ⊥
InV (Text w e) i = ⊥
InV (Comment e) i = ⊥
InV (Unreadable p) i = ⊥

-- a value's bytes
abbrev pub value_in : List ℕ → Span → List ℕ
value_in s x = part_of s x.start x.len

-- the value of `v` in a start or empty tag that stands in s and in s'
unfoldable pub JoinsV : (List ℕ → List ℕ → Type 0) → Item → List ℕ → List ℕ → Type 0
JoinsV R (Start t) s s' = R (value_in s t.v) (value_in s' t.v)
JoinsV R (Empty t) s s' = R (value_in s t.v) (value_in s' t.v)
JoinsV R (End n e) s s' = Unit {0}
JoinsV R (Text w e) s s' = Unit {0}
JoinsV R (Comment e) s s' = Unit {0}
JoinsV R (Unreadable p) s s' = Unit {0}

-- s and s' are as long as each other; in the item x at their front, and in the byte behind it, they differ in its `v` alone, and there as R says
pub record SameButV (R : List ℕ → List ℕ → Type 0) (x : Item) (s s' : List ℕ) : Type 0 where
  pub long : length s ≡ length s'
  pub inside : (i : ℕ) → i ≤ item_end x → (byte s i ≡ byte s' i) ⊎ InV x i
  pub joined : JoinsV R x s s'

-- a value that is not there, or one behind the tag's name, white space, a name, `=` and a quote, and before the tag's end
abbrev pub Stands : ℕ → ℕ → Span → Type 0
Stands name len x = ((x.start ≡ 0) × (x.len ≡ 0)) ⊎ ((3 + name < x.start) × (x.start + x.len < len))

-- two values that share no place
abbrev pub Disjoint : Span → Span → Type 0
Disjoint x y = (i : ℕ) → InSpan i x → InSpan i y → ⊥

-- the item is this tag
abbrev pub IsTag : Item → Tag → Type 0
IsTag x t = (x ≡ Start t) ⊎ (x ≡ Empty t)

-- the value y of another attribute stands in the tag, and shares no place with the value x of `v`
pub record Beside (name len : ℕ) (x y : Span) : Type 0 where
  pub stands : Stands name len y
  pub apart : Disjoint x y

-- where the values x of `v`, y of codingScheme and d of the attributes of a root stand
pub record ValuesLaid (name len : ℕ) (x y : Span) (d : Dtd) : Type 0 where
  pub v : Stands name len x
  pub coding : Beside name len x y
  pub version : Beside name len x d.version
  pub release : Beside name len x d.release
  pub message : Beside name len x d.message

-- where the parts of a tag stand
pub record TagLaid (t : Tag) : Type 0 where
  pub some : 0 < t.name
  pub name : 1 + t.name < t.len
  pub values : ValuesLaid t.name t.len t.v t.coding t.dtd

unfoldable pub Laid : Item → Type 0
Laid (Start t) = TagLaid t
Laid (Empty t) = TagLaid t
Laid (End n e) = 2 + n < e
Laid (Text w e) = Unit {0}
Laid (Comment e) = Unit {0}
Laid (Unreadable p) = Unit {0}

-- what a tag says in s and in s' is the same, its `v` left aside
pub record PartsSame (t : Tag) (s s' : List ℕ) : Type 0 where
  pub name : part_of s 1 t.name ≡ part_of s' 1 t.name
  pub coding : value_in s t.coding ≡ value_in s' t.coding
  pub version : value_in s t.dtd.version ≡ value_in s' t.dtd.version
  pub release : value_in s t.dtd.release ≡ value_in s' t.dtd.release
  pub message : value_in s t.dtd.message ≡ value_in s' t.dtd.message
