-- `explanations::add_head` meets its contract.
-- Assumes nothing.
use borrow.Author.Tests.{eq-eqb, ne_eqb}
use Rattle.explanations.specs.Explanation.{head_part}
use Rattle.explanations.proofs.add_head.Goals as goal

pub returns-then-n-eq0 : goal.returns-then-n-eq0
unfolding head_part
returns-then-n-eq0 c = record { next = rw (eq-eqb _ _ c.if-n-eq0.true) c.add_text.ensures.next; text = rw (eq-eqb _ _ c.if-n-eq0.true) c.add_text.ensures.text }

pub returns : goal.returns
unfolding head_part
returns c = record { next = rw (ne_eqb _ _ c.if-n-eq0.false) c.add_around.ensures.next; text = rw (ne_eqb _ _ c.if-n-eq0.false) c.add_around.ensures.text }
