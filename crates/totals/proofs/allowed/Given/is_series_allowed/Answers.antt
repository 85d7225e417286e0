use mathlib.Core.Path.{refl}
use Rattle.totals.specs.Given.{handed_of}
use Rattle.totals.specs.Rules.{due_row}
use Rattle.totals.proofs.Facts.{no-positions, no-amounts, not-due, not-count, as_rows}
use Rattle.totals.proofs.allowed.Given.is_series_allowed.Goals as goal

pub returns-then-positions-end : goal.returns-then-positions-end
returns-then-positions-end c = let g = handed_of c.args.self in no-positions g c.args.i _ _ _ (due_row g.series c.args.i) c.field_of-first.ensures c.field_of-n.ensures refl refl c.if-positions-end.true

pub returns-then-amounts-end : goal.returns-then-amounts-end
returns-then-amounts-end c = let g = handed_of c.args.self in no-amounts g c.args.i _ _ _ (due_row g.series c.args.i) c.field_of-first.ensures c.field_of-n.ensures refl refl c.if-positions-end.false c.if-amounts-end.true

pub returns-then-first-due : goal.returns-then-first-due
returns-then-first-due c = let g = handed_of c.args.self in not-due g c.args.i _ _ _ _ c.field_of-first.ensures c.field_of-n.ensures refl c.due_row-due.ensures c.if-positions-end.false c.if-amounts-end.false c.if-first-due.true

pub returns-then-is_count_allowed : goal.returns-then-is_count_allowed
returns-then-is_count_allowed c = let g = handed_of c.args.self in as_rows g c.args.i _ _ _ _ c.field_of-first.ensures c.field_of-n.ensures refl c.due_row-due.ensures c.if-positions-end.false c.if-amounts-end.false c.if-first-due.false c.is_count_allowed.ensures c.if-is_count_allowed.true c.are_rows_allowed.ensures

pub returns : goal.returns
returns c = let g = handed_of c.args.self in not-count g c.args.i _ _ _ _ c.field_of-first.ensures c.field_of-n.ensures refl c.due_row-due.ensures c.if-positions-end.false c.if-amounts-end.false c.if-first-due.false c.is_count_allowed.ensures c.if-is_count_allowed.false
