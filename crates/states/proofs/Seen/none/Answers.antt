use mathlib.Core.Path.{refl}
use Rattle.states.specs.Constraints.{none_seen}
use Rattle.states.proofs.Seen.none.Goals as goal

pub returns : goal.returns
unfolding none_seen
returns c = refl
