use Rattle.fitting.proofs.Loops.{telling-start, telling-over, telling-fails, telling-used, telling-next}
use Rattle.fitting.proofs.rows.every_series_fits.Goals as goal
use Rattle.fitting.proofs.rows.every_series_fits.Goals.{then-not-series_fits-via-then-not-series_fits, then-not-series_fits-via-else-not-series_fits+then-is_used_before}

pub loop-i-init : goal.loop-i-init
loop-i-init c = telling-start _ _ _ _ _ _ _ _ _ _

pub returns-then-not-series_fits : goal.returns-then-not-series_fits
returns-then-not-series_fits c = elim c.then-not-series_fits.branch [
  | then-not-series_fits-via-then-not-series_fits w ↦ telling-fails c.loop-i.invariant c.loop-i-test.true c.role_row-row.ensures.row c.field_of-first.ensures c.field_of-n.ensures c.series_fits.ensures w.if-not-series_fits.true
  | then-not-series_fits-via-else-not-series_fits+then-is_used_before w ↦ telling-used c.loop-i.invariant c.loop-i-test.true c.role_row-row.ensures.row c.field_of-first.ensures c.field_of-n.ensures c.series_fits.ensures w.if-not-series_fits.false w.is_used_before.ensures w.if-is_used_before.true
]

pub loop-i-preserved : goal.loop-i-preserved
loop-i-preserved c = telling-next c.loop-i.invariant c.loop-i-test.true c.role_row-row.ensures.row c.field_of-first.ensures c.field_of-n.ensures c.series_fits.ensures c.if-not-series_fits.false c.is_used_before.ensures c.if-is_used_before.false

pub returns : goal.returns
returns c = telling-over c.loop-i.invariant c.loop-i-test.false
