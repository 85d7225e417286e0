use Rattle.states.specs.Attributes.{said_in}
use Rattle.trims.proofs.Trimming.{trimmed-says}
use Rattle.states.proofs.value_of.Goals as goal

pub returns-then-is_collapsed : goal.returns-then-is_collapsed
unfolding said_in
returns-then-is_collapsed c = simp (c.trimmed.ensures, trimmed-says, c.if-is_collapsed.true, ← c.is_collapsed.ensures, ← c.part-v.ensures)

pub returns : goal.returns
unfolding said_in
returns c = simp (c.if-is_collapsed.false, ← c.is_collapsed.ensures, ← c.part-v.ensures)
