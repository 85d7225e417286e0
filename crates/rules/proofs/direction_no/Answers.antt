use Rattle.rules.specs.Rules.{direction_no}
use Rattle.rules.proofs.direction_no.Goals as goal

pub returns-then-is_said : goal.returns-then-is_said
unfolding direction_no
returns-then-is_said c = simp (c.if-is_said.true, ← c.is_said.ensures)

pub returns-then-is_said-2 : goal.returns-then-is_said-2
unfolding direction_no
returns-then-is_said-2 c = simp (c.if-is_said-2.true, ← c.is_said-2.ensures, c.if-is_said.false, ← c.is_said.ensures)

pub returns : goal.returns
unfolding direction_no
returns c = simp (c.if-is_said-2.false, ← c.is_said-2.ensures, c.if-is_said.false, ← c.is_said.ensures)
