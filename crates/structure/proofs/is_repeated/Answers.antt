use mathlib.Core.Path.{refl}
use Rattle.structure.specs.Rows.{repeated}
use Rattle.structure.proofs.is_repeated.Goals as goal

pub returns : goal.returns
unfolding repeated
returns c = refl
