use borrow.Author.Tests.{eq-eqb, ne_eqb}
use Rattle.tags.specs.First.{v_use}
use Rattle.tags.proofs.v_use.Goals as goal

pub returns-then-m-eq0 : goal.returns-then-m-eq0
unfolding v_use
returns-then-m-eq0 c = simp (eq-eqb _ _ c.if-m-eq0.true)

pub returns-else-m-eq0 : goal.returns-else-m-eq0
unfolding v_use
returns-else-m-eq0 c = simp (ne_eqb _ _ c.if-m-eq0.false)
