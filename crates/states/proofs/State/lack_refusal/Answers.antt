use Rattle.states.specs.Moves.{lack_refusal}
use Rattle.states.proofs.State.lack_refusal.Goals as goal

pub returns-then-is_lacking : goal.returns-then-is_lacking
unfolding lack_refusal
returns-then-is_lacking c = simp (c.if-is_lacking.true, ← c.is_lacking.ensures, c.if-kind_at.true, ← c.kind_at.ensures)

pub returns-else-is_lacking : goal.returns-else-is_lacking
unfolding lack_refusal
returns-else-is_lacking c = simp (c.if-is_lacking.false, ← c.is_lacking.ensures, c.if-kind_at.true, ← c.kind_at.ensures)

pub returns-else-kind_at : goal.returns-else-kind_at
unfolding lack_refusal
returns-else-kind_at c = simp (c.if-kind_at.false, ← c.kind_at.ensures)
