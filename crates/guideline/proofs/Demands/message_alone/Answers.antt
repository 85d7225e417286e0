use mathlib.Core.Path.{refl}
use Rattle.guideline.specs.Kinds.{message_alone}
use Rattle.guideline.proofs.Demands.message_alone.Goals as goal

pub returns : goal.returns
unfolding message_alone
returns c = refl
