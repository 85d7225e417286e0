use mathlib.Core.Path.{refl}
use Rattle.structure.specs.Rows.{required}
use Rattle.structure.proofs.is_required.Goals as goal

pub returns : goal.returns
unfolding required
returns c = refl
