use borrow.Author.Tests.{le-leb, lt-leb}
use Rattle.pictures.specs.Picture.{first_three}
use Rattle.pictures.proofs.is_first_three.Goals as goal

pub returns-then-c-ge65 : goal.returns-then-c-ge65
unfolding first_three
returns-then-c-ge65 c = simp (le-leb _ _ c.if-c-ge65.true)

pub returns-else-c-ge65 : goal.returns-else-c-ge65
unfolding first_three
returns-else-c-ge65 c = simp (lt-leb _ _ c.if-c-ge65.false)
