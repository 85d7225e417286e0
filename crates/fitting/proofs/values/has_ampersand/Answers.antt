use mathlib.Core.Path.{◌∙◌}
use Rattle.fitting.proofs.Judging.{any-ampersand}
use Rattle.fitting.proofs.values.has_ampersand.Goals as goal

pub returns : goal.returns
returns c = c.contains.ensures.value ∙ any-ampersand _
