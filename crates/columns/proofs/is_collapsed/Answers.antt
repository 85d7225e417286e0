use mathlib.Core.Path.{refl}
use Rattle.columns.specs.Columns.{collapsed}
use Rattle.columns.proofs.is_collapsed.Goals as goal

pub returns : goal.returns
unfolding collapsed
returns c = refl
