use mathlib.Core.Path.{refl}
use Rattle.states.specs.Moves.{closed_at}
use Rattle.states.proofs.State.left.Goals as goal

pub returns : goal.returns
unfolding closed_at
returns c = refl
