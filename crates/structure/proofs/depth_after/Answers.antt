use Rattle.structure.specs.Depth.{depth_of}
use Rattle.structure.proofs.depth_after.Goals as goal

pub returns-then-inside : goal.returns-then-inside
unfolding depth_of
returns-then-inside c = rw c.if-inside.true c.height.ensures

pub returns : goal.returns
unfolding depth_of
returns c = rw (c.if-inside.false, ← c.row_at.ensures, ← c.parent_of.ensures) c.height-2.ensures
