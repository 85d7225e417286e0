use Rattle.forms.specs.Forms.{identification}
use Rattle.forms.proofs.is_identification.Goals as goal

pub returns : goal.returns
unfolding identification
returns c = simp (← c.count_chars.ensures)
