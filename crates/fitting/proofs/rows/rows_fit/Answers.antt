use Rattle.fitting.proofs.Loops.{rowing_start, rowing-over, rowing-fails, rowing-next}
use borrow.Author.Rules.{sfits_of}
use mir.Facts.{to_z-of_z}
use Rattle.fitting.proofs.rows.rows_fit.Goals as goal

pub loop-j-init : goal.loop-j-init
loop-j-init c = rowing_start _ _ _ _ _ _

pub returns-then-not-row_fits : goal.returns-then-not-row_fits
returns-then-not-row_fits c = rowing-fails c.loop-j.invariant c.loop-j-test.true c.number_at-p.ensures c.amount_at.ensures (rw (to_z-of_z (sfits_of c.amount_at.type_inv)) at c.row_fits.ensures) c.if-not-row_fits.true

pub loop-j-preserved : goal.loop-j-preserved
loop-j-preserved c = rowing-next c.loop-j.invariant c.loop-j-test.true c.number_at-p.ensures c.amount_at.ensures (rw (to_z-of_z (sfits_of c.amount_at.type_inv)) at c.row_fits.ensures) c.if-not-row_fits.false

pub returns : goal.returns
returns c = rowing-over c.loop-j.invariant c.loop-j-test.false
