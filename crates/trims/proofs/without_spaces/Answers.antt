use mathlib.Core.Path.{◌∙◌}
use Rattle.trims.specs.Trim.{trimmed_of}
use Rattle.trims.proofs.without_spaces.Goals as goal

pub returns : goal.returns
unfolding trimmed_of
returns c = c.without_trail.ensures ∙ rw (c.rest.ensures.list, c.leading_spaces.ensures.lead)
