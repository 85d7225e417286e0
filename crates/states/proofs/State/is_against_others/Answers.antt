use Rattle.states.specs.Moves.{against_others}
use Rattle.states.proofs.State.is_against_others.Goals as goal

pub returns-then-kind_at : goal.returns-then-kind_at
unfolding against_others
returns-then-kind_at c = simp (← c.is_against.ensures, c.if-kind_at.true, ← c.kind_at.ensures)

pub returns : goal.returns
unfolding against_others
returns c = simp (c.if-kind_at.false, ← c.kind_at.ensures)
