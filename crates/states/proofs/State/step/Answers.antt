use Rattle.states.specs.Moves.{step_by}
use Rattle.states.proofs.State.step.Goals as goal

pub returns : goal.returns
unfolding step_by
returns c = simp (← c.moved.ensures, ← c.rows_of.ensures, ← c.kind_told-kind.ensures)
