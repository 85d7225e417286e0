use Rattle.forms.specs.Forms.{quarter_hour}
use Rattle.forms.proofs.is_quarter_hour.Goals as goal

pub returns : goal.returns
unfolding quarter_hour
returns c = simp (← c.is_said.ensures)
