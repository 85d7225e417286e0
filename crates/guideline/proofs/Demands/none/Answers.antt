use mathlib.Core.Path.{refl}
use Rattle.guideline.specs.Kinds.{no_demands}
use Rattle.guideline.proofs.Demands.none.Goals as goal

pub returns : goal.returns
unfolding no_demands
returns c = refl
