-- Ways to write a document otherwise so that its tags say the same: white text and comments between its items, and in a tag the quotes of a value, the order of
-- the attributes, white space, and an empty tag for a start tag and its end.
use Rattle.std.specs.Prelude.{ℕ, ◌+◌, ◌<◌, ◌≡◌, List, [], ◌∷◌, ◌++◌, Bool, true, false, ◌⊎◌, length, Ok, Some}
use Rattle.slices.specs.Bytes.{byte}
use Rattle.slices.specs.Run.{run}
use Rattle.slices.specs.Same.{first_at}
use Rattle.attributes.specs.Names.{name_start, name_byte, white}
use Rattle.attributes.specs.Attribute.{quote, value}
use Rattle.items.specs.Item.{item, item_end}
use Rattle.items.specs.declared.Item.TheVariants.{Comment}
use Rattle.prolog.specs.Prolog.{begin}
use Rattle.reader.specs.Items.{Placed, items_after, items_from}
use Rattle.contents.specs.Spelled.{signs_of, AllAllowed}

-- ---- between items

-- p is a place where one of the items begins, or where one ends
unfoldable pub Between : List Placed → ℕ → Type 0
Between [] p = ⊥
Between (x ∷ xs) p = (x.at ≡ p) ⊎ ((x.at + item_end x.item ≡ p) ⊎ Between xs p)

-- The document has only items that may stand in it, and p is a place between them.
pub record BetweenItems (doc : List ℕ) (p : ℕ) : Type 0 where
  pub from : ℕ
  pub begins : begin doc ≡ Ok from
  pub items : AllAllowed (items_from doc from)
  pub between : Between (items_from doc from) p

-- white space only
abbrev pub White : List ℕ → Type 0
White w = run white w ≡ length w

-- a whole readable comment
abbrev pub IsComment : List ℕ → Type 0
IsComment c = item 0 c ≡ Comment (length c)

-- Two parts of documents that each begin with an item: where all items of l may stand in a document, so may those of m, and their tags say the same.
abbrev pub SayAlike : List ℕ → List ℕ → Type 0
SayAlike l m =
    AllAllowed (items_after 0 0 l) → AllAllowed (items_after 0 0 m) × (signs_of (items_after 0 0 l) ≡ signs_of (items_after 0 0 m))

-- ---- in a tag

-- An attribute as it is written: white space, its name, white space, `=`, white space, a quote, its value, and the quote again.
pub record Written : Type 0 where
  pub before : List ℕ
  pub name : List ℕ
  pub left : List ℕ
  pub right : List ℕ
  pub mark : ℕ
  pub value : List ℕ

unfoldable pub attribute_bytes : Written → List ℕ
attribute_bytes a = a.before ++ (a.name ++ (a.left ++ (0x3D ∷ (a.right ++ (a.mark ∷ (a.value ++ (a.mark ∷ [])))))))

unfoldable pub attributes_bytes : List Written → List ℕ
attributes_bytes [] = []
attributes_bytes (a ∷ more) = attribute_bytes a ++ attributes_bytes more

-- A start or empty tag as it is written: `<`, its name, its attributes, white space, and `>` or `/>`.
pub record WrittenTag : Type 0 where
  pub name : List ℕ
  pub attributes : List Written
  pub last : List ℕ

unfoldable pub close_bytes : Bool → List ℕ
close_bytes false = 0x3E ∷ []
close_bytes true = 0x2F ∷ 0x3E ∷ []

unfoldable pub tag_bytes : WrittenTag → Bool → List ℕ
tag_bytes t empty = 0x3C ∷ (t.name ++ (attributes_bytes t.attributes ++ (t.last ++ close_bytes empty)))

-- an end tag, with the white space w before its `>`
unfoldable pub end_bytes : List ℕ → List ℕ → List ℕ
end_bytes name w = 0x3C ∷ (0x2F ∷ (name ++ (w ++ (0x3E ∷ []))))

-- "names are ASCII letters, digits, `_ - . :` and begin with a letter or `_`"
pub record IsName (n : List ℕ) : Type 0 where
  pub first : name_start (byte n 0) ≡ true
  pub all : run name_byte n ≡ length n

-- a value that may stand between two quotes q, and ends at the second
abbrev pub Quoted : ℕ → List ℕ → Type 0
Quoted q v = value q (v ++ (q ∷ [])) ≡ Some (length v)

-- bytes without the quote q
abbrev pub Without : ℕ → List ℕ → Type 0
Without q v = first_at (q ∷ []) v ≡ length v

-- White space has to stand before an attribute, and may stand around its `=`.
pub record WellWritten (a : Written) : Type 0 where
  pub some : 0 < length a.before
  pub before : White a.before
  pub name : IsName a.name
  pub left : White a.left
  pub right : White a.right
  pub mark : quote a.mark ≡ true
  pub value : Quoted a.mark a.value

unfoldable pub AllWell : List Written → Type 0
AllWell [] = Unit {0}
AllWell (a ∷ more) = WellWritten a × AllWell more

pub record WellTag (t : WrittenTag) : Type 0 where
  pub name : IsName t.name
  pub attributes : AllWell t.attributes
  pub last : White t.last

-- the same name and value: the quotes and the white space may be others
pub record SameAttribute (a b : Written) : Type 0 where
  pub name : a.name ≡ b.name
  pub value : a.value ≡ b.value

-- the same attributes, where neighbours may have changed places
pub data SameAttributes : List Written → List Written → Type 0 where
  none : SameAttributes [] []
  next : {a b : Written} {more others : List Written} → SameAttribute a b → SameAttributes more others → SameAttributes (a ∷ more) (b ∷ others)
  exchanged : {a b c d : Written} {more others : List Written} → SameAttribute a c → SameAttribute b d → SameAttributes more others
      → SameAttributes (a ∷ b ∷ more) (d ∷ c ∷ others)

-- the same tag, written otherwise
pub record SameTag (s t : WrittenTag) : Type 0 where
  pub name : s.name ≡ t.name
  pub attributes : SameAttributes s.attributes t.attributes

-- the tag with these attributes
abbrev pub with_attributes : WrittenTag → List Written → WrittenTag
with_attributes t more = record { name = t.name; attributes = more; last = t.last }

-- the attribute with its value between quotes q
abbrev pub in_quotes : ℕ → Written → Written
in_quotes q a = record { before = a.before; name = a.name; left = a.left; right = a.right; mark = q; value = a.value }
