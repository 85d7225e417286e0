-- "gives back the same positions, amounts and texts, spaces at collapsed ends aside": what the views of a written document show, beside what its draft gave.
use Rattle.std.specs.Prelude.{ℕ, ◌+◌, ◌≤◌, ◌<◌, ◌≡◌, List, Bool, true, false, cond, eqb, length, get_or}
use Rattle.characters.specs.Says.{says}
use Rattle.trims.specs.Trim.{dropped}
use Rattle.escapes.specs.Spelled.{chars_of}
use Rattle.columns.specs.Columns.{collapsed, role_of, root_role}
use Rattle.guideline.specs.Rows.{rows_of}
use Rattle.views.specs.Layout.{header_pairs, values_of, first_pair, cell_of}
use Rattle.views.specs.Shown.{pair_view}
use Rattle.drafts.specs.Draft.{Draft, pair_for}
use Rattle.drafts.specs.Pairs.{has_pair}

-- whether spaces are dropped at the ends of value j of row w: of `v` where the row is collapsed, of every codingScheme, and of nothing on the root
unfoldable pub drops_at : ℕ → ℕ → Bool
drops_at w j = cond (eqb (role_of w) root_role) false (cond (eqb j 0) (collapsed w) true)

-- characters, "spaces at collapsed ends aside"
abbrev pub ends_dropped : Bool → List ℕ → List ℕ
ends_dropped drops l = cond drops (dropped l) l

-- pair k of the views t of a document shows what pair k of the draft gives
pub record TextBack (d : Draft) (doc t : List ℕ) (k : ℕ) (drops : Bool) : Type 0 where
  -- "0 and 0 where absent"
  pub absent : has_pair d.pairs k ≡ false → (get_or t (cell_of k) 0 ≡ 0) × (get_or t (cell_of k + 1) 0 ≡ 0)
  -- and only there
  pub there : has_pair d.pairs k ≡ true → has_pair t k ≡ true
  -- it says the characters of the text, in which `&` stands for itself
  pub said : has_pair d.pairs k ≡ true → says (pair_view doc t k) ≡ ends_dropped drops (chars_of (pair_view d.text d.pairs k))

-- of each value of each row, in the header and in each series
pub record EachValue (rows : List ℕ) (count : ℕ) (P : ℕ → Bool → Type 0) : Type 0 where
  pub header : (q : ℕ) → q < length rows → first_pair rows q < header_pairs → (j : ℕ) → j < values_of (get_or rows q 0)
      → P (first_pair rows q + j) (drops_at (get_or rows q 0) j)
  pub each : (q : ℕ) → q < length rows → header_pairs ≤ first_pair rows q → (i : ℕ) → i < count → (j : ℕ) → j < values_of (get_or rows q 0)
      → P (pair_for rows q i + j) (drops_at (get_or rows q 0) j)

-- "the same .. texts"
abbrev pub TextsBack : Draft → List ℕ → List ℕ → Type 0
TextsBack d doc t = EachValue (rows_of d.kind) d.count (TextBack d doc t)
