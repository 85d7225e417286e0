use mathlib.Core.Path.{◌∙◌}
use Rattle.drafts.proofs.Given.{nothing-past}
use Rattle.drafts.proofs.shown.Goals as goal

pub returns-then-pairs-cell : goal.returns-then-pairs-cell
returns-then-pairs-cell c = c.part.ensures ∙ (search nothing-past)

pub returns : goal.returns
returns c = simp (← c.part-2.ensures, ← c.number_at-len.ensures, ← c.number_at-start.ensures)
