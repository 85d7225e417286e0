use native.Mathlib.Omega.{arith}
use Rattle.slices.proofs.Walks.{walked_start}
use Rattle.elements.proofs.Rows.{told_more, told-end}
use Rattle.elements.proofs.told.Goals as goal

pub loop-i-init : goal.loop-i-init
loop-i-init c = (omega arith, walked_start)

pub loop-i-preserved : goal.loop-i-preserved
loop-i-preserved c = (omega arith, told_more _ _ _ _ _ c.loop-i.invariant.1 c.loop-i-test.true c.pick-found.ensures)

pub returns : goal.returns
returns c = told-end _ _ _ _ _ c.loop-i.invariant.1 c.loop-i-test.false
