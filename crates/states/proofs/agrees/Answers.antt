use Rattle.states.specs.Attributes.{agree}
use Rattle.states.proofs.agrees.Goals as goal

pub returns-then-asked : goal.returns-then-asked
unfolding agree
returns-then-asked c = simp c.if-asked.true

pub returns-then-given : goal.returns-then-given
unfolding agree
returns-then-given c = simp (c.if-given.true, c.if-asked.false)

pub returns-else-given : goal.returns-else-given
unfolding agree
returns-else-given c = simp (c.if-given.false, c.if-asked.false)
