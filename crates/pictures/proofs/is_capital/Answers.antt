use borrow.Author.Tests.{le-leb, lt-leb}
use Rattle.pictures.specs.Picture.{capital}
use Rattle.pictures.proofs.is_capital.Goals as goal

pub returns-then-c-ge65 : goal.returns-then-c-ge65
unfolding capital
returns-then-c-ge65 c = simp (le-leb _ _ c.if-c-ge65.true)

pub returns-else-c-ge65 : goal.returns-else-c-ge65
unfolding capital
returns-else-c-ge65 c = simp (lt-leb _ _ c.if-c-ge65.false)
