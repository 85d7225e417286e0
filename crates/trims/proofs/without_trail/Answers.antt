use mathlib.Core.Path.{◌∙◌}
use Rattle.trims.specs.Trim.{cut_trail}
use Rattle.trims.proofs.without_trail.Goals as goal

pub returns : goal.returns
unfolding cut_trail
returns c = c.front.ensures.list ∙ rw c.kept_len.ensures
