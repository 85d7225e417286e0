use borrow.Author.Tests.{eq-eqb, ne_eqb}
use Rattle.library.specs.Cells.{shape_of}
use Rattle.library.proofs.shape_of.Goals as goal

pub returns-then-n-eq0 : goal.returns-then-n-eq0
unfolding shape_of
returns-then-n-eq0 c = simp (eq-eqb _ _ c.if-n-eq0.true)

pub returns : goal.returns
unfolding shape_of
returns c = simp (ne_eqb _ _ c.if-n-eq0.false)
