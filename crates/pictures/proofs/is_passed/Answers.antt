use Rattle.pictures.specs.Picture.{test}
use Rattle.pictures.proofs.is_passed.Goals as goal

pub returns-then-plain : goal.returns-then-plain
unfolding test
returns-then-plain c = simp c.if-plain.true

pub returns-else-plain : goal.returns-else-plain
unfolding test
returns-else-plain c = simp (← c.is_taken.ensures, c.if-plain.false)
