use borrow.Author.Tests.{eq-eqb, ne_eqb}
use Rattle.states.specs.Moves.{count_refusal}
use Rattle.states.proofs.count_refusal.Goals as goal

pub returns-then-n-quarters : goal.returns-then-n-quarters
unfolding count_refusal
returns-then-n-quarters c = simp (eq-eqb _ _ c.if-n-quarters.true, c.if-kind_at.true, ← c.kind_at.ensures, c.if-has_enough.true, ← c.has_enough.ensures)

pub returns-then-kind_at : goal.returns-then-kind_at
unfolding count_refusal
returns-then-kind_at c = simp (ne_eqb _ _ c.if-n-quarters.false, c.if-kind_at.true, ← c.kind_at.ensures, c.if-has_enough.true, ← c.has_enough.ensures)

pub returns-then-has_enough : goal.returns-then-has_enough
unfolding count_refusal
returns-then-has_enough c = simp (c.if-kind_at.false, ← c.kind_at.ensures, c.if-has_enough.true, ← c.has_enough.ensures)

pub returns : goal.returns
unfolding count_refusal
returns c = simp (c.if-has_enough.false, ← c.has_enough.ensures)
