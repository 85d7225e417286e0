use Rattle.states.specs.Attributes.{dtd_fixed}
use Rattle.states.proofs.is_dtd_fixed.Goals as goal

pub returns-then-is_value_fixed-2 : goal.returns-then-is_value_fixed-2
unfolding dtd_fixed
returns-then-is_value_fixed-2 c = simp (← c.is_value_fixed-then-is_value_fixed-2.ensures, c.if-is_value_fixed-2.true, ← c.is_value_fixed-then-is_value_fixed.ensures, c.if-is_value_fixed.true, ← c.is_value_fixed.ensures)

pub returns-else-is_value_fixed-2 : goal.returns-else-is_value_fixed-2
unfolding dtd_fixed
returns-else-is_value_fixed-2 c = simp (c.if-is_value_fixed-2.false, ← c.is_value_fixed-then-is_value_fixed.ensures, c.if-is_value_fixed.true, ← c.is_value_fixed.ensures)

pub returns-else-is_value_fixed : goal.returns-else-is_value_fixed
unfolding dtd_fixed
returns-else-is_value_fixed c = simp (c.if-is_value_fixed.false, ← c.is_value_fixed.ensures)
