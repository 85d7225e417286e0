use Rattle.forms.specs.Forms.{grid_element}
use Rattle.forms.proofs.is_grid_element.Goals as goal

pub returns : goal.returns
unfolding grid_element
returns c = simp (← c.count_chars.ensures)
