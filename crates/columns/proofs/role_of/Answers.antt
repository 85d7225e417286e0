use mathlib.Core.Path.{refl}
use Rattle.columns.specs.Columns.{role_of}
use Rattle.columns.proofs.role_of.Goals as goal

pub returns : goal.returns
unfolding role_of
returns c = refl
