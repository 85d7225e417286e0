use Rattle.rules.specs.Rules.{refused, judge_period_by, judge_period}
use Rattle.rules.proofs.judge_period.Goals as goal

pub returns-then-is_period : goal.returns-then-is_period
unfolding judge_period judge_period_by refused
returns-then-is_period c = simp (c.if-is_period.true, ← c.is_period.ensures, c.in-Some.is, ← c.interval_of.ensures)

pub returns-else-is_period : goal.returns-else-is_period
unfolding judge_period judge_period_by refused
returns-else-is_period c = simp (c.if-is_period.false, ← c.is_period.ensures, c.in-Some.is, ← c.interval_of.ensures)

pub returns-in-None : goal.returns-in-None
unfolding judge_period judge_period_by refused
returns-in-None c = simp (c.in-None.is, ← c.interval_of.ensures)
