use mathlib.Core.Path.{◌∙◌}
use Rattle.pictures.proofs.Fitting.{said}
use Rattle.pictures.specs.Picture.{test}
use Rattle.pictures.proofs.is_said.Goals as goal

pub returns : goal.returns
unfolding test
returns c = c.is_held.ensures ∙ said _ _
