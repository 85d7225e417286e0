use Rattle.states.specs.Constraints.{directed, directed_to}
use Rattle.states.proofs.Seen.directed.Goals as goal

pub returns-then-self-2 : goal.returns-then-self-2
unfolding directed directed_to
returns-then-self-2 c = simp (c.if-self-2.true, c.if-self.true)

pub returns-else-self-2 : goal.returns-else-self-2
unfolding directed directed_to
returns-else-self-2 c = simp (c.if-self-2.false, c.if-self.true)

pub returns-else-self : goal.returns-else-self
unfolding directed directed_to
returns-else-self c = simp c.if-self.false
