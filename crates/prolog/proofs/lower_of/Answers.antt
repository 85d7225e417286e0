use borrow.Author.Tests.{le-leb, lt-leb}
use Rattle.prolog.specs.Prolog.{lower}
use Rattle.prolog.proofs.lower_of.Goals as goal

pub returns-then-b-le90 : goal.returns-then-b-le90
unfolding lower
returns-then-b-le90 c = simp (le-leb _ _ c.if-b-le90.true, le-leb _ _ c.if-b-ge65.true)

pub returns-else-b-le90 : goal.returns-else-b-le90
unfolding lower
returns-else-b-le90 c = simp (lt-leb _ _ c.if-b-le90.false, le-leb _ _ c.if-b-ge65.true)

pub returns-else-b-ge65 : goal.returns-else-b-ge65
unfolding lower
returns-else-b-ge65 c = simp (lt-leb _ _ c.if-b-ge65.false)
