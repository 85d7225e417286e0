use mathlib.Core.Path.{refl}
use Rattle.structure.specs.Rows.{parent_of}
use Rattle.structure.proofs.parent_of.Goals as goal

pub returns : goal.returns
unfolding parent_of
returns c = refl
