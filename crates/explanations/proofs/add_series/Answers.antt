-- `explanations::add_series` meets its contract.
-- Assumes nothing.
use borrow.Author.Tests.{eq-eqb, ne_eqb}
use Rattle.explanations.specs.Explanation.{series_part}
use Rattle.explanations.proofs.add_series.Goals as goal

pub returns-then-refusal-eq0 : goal.returns-then-refusal-eq0
unfolding series_part
returns-then-refusal-eq0 c = record { next = rw (eq-eqb _ _ c.if-refusal-eq0.true) c.add_around.ensures.next; text = rw (eq-eqb _ _ c.if-refusal-eq0.true) c.add_around.ensures.text }

pub returns : goal.returns
unfolding series_part
returns c = record { next = rw (ne_eqb _ _ c.if-refusal-eq0.false) c.add_around-2.ensures.next; text = rw (ne_eqb _ _ c.if-refusal-eq0.false) c.add_around-2.ensures.text }
