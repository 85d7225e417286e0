-- "no document of these kinds .. would be accepted with the given content": which contents have what a draft gives.
use Rattle.std.specs.Prelude.{ℕ, ◌≡◌, List, true, false, get_or}
use Rattle.characters.specs.Says.{says}
use Rattle.trims.specs.Trim.{dropped}
use Rattle.numbers.specs.Amount.{amount_of}
use Rattle.columns.specs.Columns.{pos_role, qty_role}
use Rattle.guideline.specs.Rows.{rows_of}
use Rattle.trees.specs.Trees.{Trees, none, element}
use Rattle.contents.specs.Said.{AttributeValue, TagSaid, given, bytes}
use Rattle.contents.specs.Legal.{has_role, position_of}
use Rattle.drafts.specs.Draft.{Draft, draft_content}

-- an attribute is there in both or in none, and says the same, however it is spelled
pub record ValueSame (x y : AttributeValue) : Type 0 where
  pub there : given x ≡ given y
  pub said : says (bytes x) ≡ says (bytes y)

-- A tag of row w has what the tag s gives: the same attributes of those that the guideline knows, saying the same; of Pos and of Qty the same number
pub record TagHas (w : ℕ) (s t : TagSaid) : Type 0 where
  pub version : ValueSame s.dtd.version t.dtd.version
  pub release : ValueSame s.dtd.release t.dtd.release
  pub message : ValueSame s.dtd.message t.dtd.message
  pub scheme : ValueSame s.scheme t.scheme
  pub there : given s.v ≡ given t.v
  pub said : has_role pos_role w ≡ false → has_role qty_role w ≡ false → says (bytes s.v) ≡ says (bytes t.v)
  pub position : has_role pos_role w ≡ true → position_of s ≡ position_of t
  pub amount : has_role qty_role w ≡ true → amount_of (dropped (says (bytes s.v))) ≡ amount_of (dropped (says (bytes t.v)))

-- element by element
unfoldable pub TreesHave : List ℕ → Trees TagSaid → Trees TagSaid → Type 0
TreesHave rows none none = Unit {0}
TreesHave rows none (element q t j b) = ⊥
TreesHave rows (element r s i a) none = ⊥
TreesHave rows (element r s i a) (element q t j b) = (r ≡ q) × TagHas (get_or rows r 0) s t × TreesHave rows i j × TreesHave rows a b

-- a content of the draft's kind has what the draft gives
abbrev pub HasGiven : Draft → Trees TagSaid → Type 0
HasGiven d c = TreesHave (rows_of d.kind) (draft_content d) c
