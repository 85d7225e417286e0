use Rattle.slices.specs.Part.{part_of}
use Rattle.slices.proofs.part.Goals as goal

pub returns : goal.returns
unfolding part_of
returns c = simp (← c.front.ensures.list, ← c.rest.ensures.list)
