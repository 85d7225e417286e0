use mathlib.Core.Path.{refl}
use Rattle.columns.specs.Columns.{scheme_of}
use Rattle.columns.proofs.scheme_of.Goals as goal

pub returns : goal.returns
unfolding scheme_of
returns c = refl
