-- Two drafts that give the same: values, and rows of each series, wherever they stand in text and tables.
use Rattle.std.specs.Prelude.{ℕ, ◌+◌, ◌<◌, ◌≡◌, pos, get_or}
use Rattle.guideline.specs.Rows.{rows_of}
use Rattle.series.specs.Row.{field_at}
use Rattle.series.specs.declared.Field.TheVariants.{FirstRow, Count}
use Rattle.drafts.specs.Draft.{Draft, pair_value}
use Rattle.writings.specs.Back.{EachValue}

-- in series i: as many rows, and the same positions and amounts
pub record SameRows (d e : Draft) (i : ℕ) : Type 0 where
  pub count : field_at d.series i Count ≡ field_at e.series i Count
  pub positions : (j : ℕ) → j < field_at d.series i Count
      → get_or d.positions (field_at d.series i FirstRow + j) 0 ≡ get_or e.positions (field_at e.series i FirstRow + j) 0
  pub amounts : (j : ℕ) → j < field_at d.series i Count
      → get_or d.amounts (field_at d.series i FirstRow + j) (pos 0) ≡ get_or e.amounts (field_at e.series i FirstRow + j) (pos 0)

pub record SameGiven (d e : Draft) : Type 0 where
  pub kind : d.kind ≡ e.kind
  pub count : d.count ≡ e.count
  pub values : EachValue (rows_of d.kind) d.count (λ k drops. pair_value d k ≡ pair_value e k)
  pub rows : (i : ℕ) → i < d.count → SameRows d e i
