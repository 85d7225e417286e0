use borrow.Author.Tests.{le-leb, lt-leb}
use Rattle.characters.specs.References.{digit}
use Rattle.pictures.proofs.is_digit.Goals as goal

pub returns-then-c-ge48 : goal.returns-then-c-ge48
unfolding digit
returns-then-c-ge48 c = simp (le-leb _ _ c.if-c-ge48.true)

pub returns-else-c-ge48 : goal.returns-else-c-ge48
unfolding digit
returns-else-c-ge48 c = simp (lt-leb _ _ c.if-c-ge48.false)
