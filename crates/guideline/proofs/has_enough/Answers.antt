use Rattle.guideline.specs.Kinds.{has_enough}
use Rattle.guideline.proofs.has_enough.Goals as goal

pub returns : goal.returns
unfolding has_enough
returns c = simp (← c.kind_at.ensures)
