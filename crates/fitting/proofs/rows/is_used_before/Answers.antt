use Rattle.fitting.proofs.Loops.{unused-start, unused-over, unused-fails, unused-next}
use Rattle.fitting.proofs.rows.is_used_before.Goals as goal

pub loop-j-init : goal.loop-j-init
loop-j-init c = unused-start _ _ _

pub returns-then-is_same : goal.returns-then-is_same
returns-then-is_same c = unused-fails c.loop-j.invariant c.loop-j-test.true c.shown-id.ensures c.shown.ensures c.is_same.ensures c.if-is_same.true

pub loop-j-preserved : goal.loop-j-preserved
loop-j-preserved c = unused-next c.loop-j.invariant c.loop-j-test.true c.shown-id.ensures c.shown.ensures c.is_same.ensures c.if-is_same.false

pub returns : goal.returns
returns c = unused-over c.loop-j.invariant c.loop-j-test.false
