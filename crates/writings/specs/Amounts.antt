-- Calls of the writer that differ in amounts alone.
use Rattle.std.specs.Prelude.{ℕ, zero, suc, List, Bool, true, ◌&&◌, ℤ}
use Rattle.series.specs.Row.{field_at}
use Rattle.series.specs.declared.Field.TheVariants.{FirstRow, Count}
use Rattle.drafts.specs.Draft.{Draft}
use Rattle.drafts.specs.Judged.{amounts_fit}

-- the draft with other amounts
abbrev pub with_amounts : Draft → List ℤ → Draft
with_amounts d a =
    record { kind = d.kind; text = d.text; pairs = d.pairs; count = d.count; series = d.series; positions = d.positions; amounts = a }

-- each amount of n series from series i on is below 10^15 thousandths in size
unfoldable pub in_range : Draft → ℕ → ℕ → Bool
in_range d i zero = true
in_range d i (suc n) = amounts_fit d (field_at d.series i FirstRow) (field_at d.series i Count) && in_range d (suc i) n
