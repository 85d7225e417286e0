-- `structure::height` meets its contract. The invariant is `Climbed`.
-- Assumes nothing.
use mathlib.Core.Path.{◌≡◌, sym, ◌∙◌}
use native.Mathlib.Omega.{arith}
use Rattle.structure.proofs.Depths.{climb-start, climb-next, climb-top, climb-end}
use Rattle.structure.proofs.height.Goals as goal

pub loop-n-init : goal.loop-n-init
loop-n-init c = climb-start _ _

pub returns-then-r-eq0 : goal.returns-then-r-eq0
returns-then-r-eq0 c = climb-top _ _ _ _ c.loop-n.invariant c.if-r-eq0.true

pub loop-n-preserved : goal.loop-n-preserved
loop-n-preserved c = rw (c.parent_of-r.ensures, c.row_at.ensures) (climb-next _ _ _ _ c.loop-n.invariant c.loop-n-test.true c.if-r-eq0.false)

pub returns : goal.returns
returns c = let e : c.loop-n.n ≡ 16 = omega arith in sym e ∙ climb-end _ _ _ _ c.loop-n.invariant c.loop-n-test.false
