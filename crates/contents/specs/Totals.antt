-- The totals of a content: of each series the sum over the quarter hours of the amount whose Pos is the last one not after it.
use Rattle.std.specs.Prelude.{ℕ, List, map, ℤ, length}
use Rattle.columns.specs.Columns.{interval_role, pos_role, qty_role}
use Rattle.guideline.specs.Rows.{rows_of}
use Rattle.reader.specs.Reading.{Tables}
use Rattle.reader.specs.Answer.{Outcome}
use Rattle.trees.specs.Trees.{Trees}
use Rattle.totals.specs.Rules.{Handed, handed}
use Rattle.totals.specs.Totals.{last_quarter, rows_total}
use Rattle.contents.specs.Said.{TagSaid}
use Rattle.contents.specs.Legal.{has_role, those, period_of, quarters_of, position_of}
use Rattle.contents.specs.Shown.{amount_in, each_series}

unfoldable pub content_total : ℕ → ℕ → List ℕ → Trees TagSaid → ℤ
content_total kind quarters rows s =
    rows_total (map position_of (those (has_role pos_role) rows s)) (map amount_in (those (has_role qty_role) rows s))
    (last_quarter kind quarters (length (those (has_role interval_role) rows s)))

unfoldable pub content_totals : ℕ → Trees TagSaid → List ℤ
content_totals kind c = map (content_total kind (quarters_of (period_of (rows_of kind) c)) (rows_of kind)) (each_series (rows_of kind) c)

-- what the reader answers and leaves, handed on to totals
unfoldable pub read_tables : Outcome → Handed
read_tables o =
    handed o.answer.kind o.answer.quarters o.answer.series o.tables.series o.tables.positions o.tables.amounts
