use Rattle.rules.specs.Rules.{refused, judge_position_by, judge_position}
use Rattle.rules.proofs.judge_position.Goals as goal

pub returns-then-is_position : goal.returns-then-is_position
unfolding judge_position judge_position_by refused
returns-then-is_position c = simp (c.if-is_position.true, ← c.is_position.ensures, c.in-Some.is, ← c.number_of.ensures)

pub returns-else-is_position : goal.returns-else-is_position
unfolding judge_position judge_position_by refused
returns-else-is_position c = simp (c.if-is_position.false, ← c.is_position.ensures, c.in-Some.is, ← c.number_of.ensures)

pub returns-in-None : goal.returns-in-None
unfolding judge_position judge_position_by refused
returns-in-None c = simp (c.in-None.is, ← c.number_of.ensures)
