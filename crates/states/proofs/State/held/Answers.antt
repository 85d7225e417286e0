use mathlib.Core.Path.{refl}
use Rattle.states.specs.Moves.{held_of}
use Rattle.states.proofs.State.held.Goals as goal

pub returns : goal.returns
unfolding held_of
returns c = refl
