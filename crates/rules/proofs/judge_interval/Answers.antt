use borrow.Author.Tests.{eq-eqb, ne_eqb}
use Rattle.rules.specs.Rules.{refused, judge_interval_by, judge_interval}
use Rattle.rules.proofs.judge_interval.Goals as goal

pub returns-then-b-to : goal.returns-then-b-to
unfolding judge_interval judge_interval_by refused
returns-then-b-to c = simp (eq-eqb _ _ c.if-b-to.true, eq-eqb _ _ c.if-a-from.true, c.in-Some.is, ← c.interval_of.ensures)

pub returns-else-b-to : goal.returns-else-b-to
unfolding judge_interval judge_interval_by refused
returns-else-b-to c = simp (ne_eqb _ _ c.if-b-to.false, eq-eqb _ _ c.if-a-from.true, c.in-Some.is, ← c.interval_of.ensures)

pub returns-else-a-from : goal.returns-else-a-from
unfolding judge_interval judge_interval_by refused
returns-else-a-from c = simp (ne_eqb _ _ c.if-a-from.false, c.in-Some.is, ← c.interval_of.ensures)

pub returns-in-None : goal.returns-in-None
unfolding judge_interval judge_interval_by refused
returns-in-None c = simp (c.in-None.is, ← c.interval_of.ensures)
