use mathlib.Core.Path.{refl}
use Rattle.structure.specs.Rows.{name_of}
use Rattle.structure.proofs.name_of.Goals as goal

pub returns : goal.returns
unfolding name_of
returns c = refl
