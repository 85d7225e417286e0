use Rattle.states.specs.Moves.{begun}
use Rattle.states.proofs.State.begin.Goals as goal

pub returns : goal.returns
unfolding begun
returns c = simp (← c.none-seen.ensures)
