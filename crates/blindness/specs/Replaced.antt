-- A document y that is x with other values of `v` in the readable tags of one name.
use Rattle.std.specs.Prelude.{ℕ, ◌≡◌, List, [], ◌∷◌, true, ◌⊎◌, length, drop, Result, Ok, Err}
use Rattle.slices.specs.Bytes.{byte}
use Rattle.items.specs.Item.{is_readable}
use Rattle.prolog.specs.Prolog.{begin}
use Rattle.reader.specs.Items.{Placed, items_from}
use Rattle.digits.specs.Items.{JoinsV}
use Rattle.blindness.specs.Readable.{tag_named, InTag, InTagsAfter}

module _ (name : List ℕ) (R : List ℕ → List ℕ → Type 0) where
  -- R joins the value of each tag of this name, up to the first unreadable item of these, to what stands at its place in y
  unfoldable pub Joins : List ℕ → List Placed → Type 0
  Joins y [] = Unit {0}
  Joins y (p ∷ xs) =
      (tag_named name p.item p.rest ≡ true → JoinsV R p.item p.rest (drop p.at y)) × (is_readable p.item ≡ true → Joins y xs)

  unfoldable pub JoinsAfter : List ℕ → List ℕ → Result ℕ ℕ → Type 0
  JoinsAfter x y (Ok n) = Joins y (items_from x n)
  JoinsAfter x y (Err q) = Unit {0}

  pub record Replaced (x y : List ℕ) : Type 0 where
    pub long : length x ≡ length y
    -- only in such values do they differ
    pub places : (p : ℕ) → (byte x p ≡ byte y p) ⊎ InTagsAfter (InTag name) x (begin x) p
    pub values : JoinsAfter x y (begin x)
