use Rattle.states.specs.Attributes.{value_fixed}
use Rattle.states.proofs.is_value_fixed.Goals as goal

pub returns-then-is_there : goal.returns-then-is_there
unfolding value_fixed
returns-then-is_there c = simp (← c.is_fixed.ensures, ← c.part.ensures, c.if-is_there.true, ← c.is_there.ensures)

pub returns : goal.returns
unfolding value_fixed
returns c = simp (c.if-is_there.false, ← c.is_there.ensures)
