-- `explanations::add_intervals` meets its contract.
-- Assumes nothing.
use borrow.Author.Tests.{eq-eqb, ne_eqb}
use Rattle.explanations.specs.Explanation.{intervals_part}
use Rattle.explanations.proofs.add_intervals.Goals as goal

pub returns-then-intervals-eq1 : goal.returns-then-intervals-eq1
unfolding intervals_part
returns-then-intervals-eq1 c = record { next = rw (eq-eqb _ _ c.if-intervals-eq1.true) c.add_text.ensures.next; text = rw (eq-eqb _ _ c.if-intervals-eq1.true) c.add_text.ensures.text }

pub returns : goal.returns
unfolding intervals_part
returns c = record { next = rw (ne_eqb _ _ c.if-intervals-eq1.false) c.add_around.ensures.next; text = rw (ne_eqb _ _ c.if-intervals-eq1.false) c.add_around.ensures.text }
