use mathlib.Core.Path.{refl}
use Rattle.columns.specs.Columns.{form_of}
use Rattle.columns.proofs.form_of.Goals as goal

pub returns : goal.returns
unfolding form_of
returns c = refl
