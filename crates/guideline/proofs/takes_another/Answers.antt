use borrow.Author.Tests.{eq-eqb, ne_eqb}
use Rattle.guideline.specs.Kinds.{within_most, takes_another}
use Rattle.guideline.proofs.takes_another.Goals as goal

pub returns-then-most-eq-UNBOUNDED : goal.returns-then-most-eq-UNBOUNDED
unfolding takes_another within_most
returns-then-most-eq-UNBOUNDED c = simp (eq-eqb _ _ c.if-most-eq-UNBOUNDED.true, ← c.kind_at-most.ensures)

pub returns : goal.returns
unfolding takes_another within_most
returns c = simp (ne_eqb _ _ c.if-most-eq-UNBOUNDED.false, ← c.kind_at-most.ensures)
