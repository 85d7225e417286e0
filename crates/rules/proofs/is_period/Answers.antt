use Rattle.rules.specs.Rules.{period_fits}
use Rattle.rules.proofs.is_period.Goals as goal

pub returns-then-kind_at : goal.returns-then-kind_at
unfolding period_fits
returns-then-kind_at c = simp (← c.is_day_period.ensures, c.if-kind_at.true, ← c.kind_at.ensures)

pub returns : goal.returns
unfolding period_fits
returns c = simp (← c.is_cost_period.ensures, c.if-kind_at.false, ← c.kind_at.ensures)
