use borrow.Author.Tests.{le-leb, lt-leb}
use Rattle.attributes.specs.Names.{name_byte}
use Rattle.attributes.proofs.is_name_byte.Goals as goal

pub returns-then-b-ge97 : goal.returns-then-b-ge97
unfolding name_byte
returns-then-b-ge97 c = simp (le-leb _ _ c.if-b-ge97.true)

pub returns-then-b-le90 : goal.returns-then-b-le90
unfolding name_byte
returns-then-b-le90 c = simp (le-leb _ _ c.if-b-le90.true, le-leb _ _ c.if-b-ge65.true, lt-leb _ _ c.if-b-ge97.false)

pub returns-else-b-le90 : goal.returns-else-b-le90
unfolding name_byte
returns-else-b-le90 c = simp (lt-leb _ _ c.if-b-le90.false, le-leb _ _ c.if-b-ge65.true, lt-leb _ _ c.if-b-ge97.false)

pub returns-then-b-ge48 : goal.returns-then-b-ge48
unfolding name_byte
returns-then-b-ge48 c = simp (le-leb _ _ c.if-b-ge48.true, lt-leb _ _ c.if-b-ge65.false, lt-leb _ _ c.if-b-ge97.false)

pub returns-then-b-ge45 : goal.returns-then-b-ge45
unfolding name_byte
returns-then-b-ge45 c = simp (le-leb _ _ c.if-b-ge45.true, lt-leb _ _ c.if-b-ge48.false, lt-leb _ _ c.if-b-ge65.false, lt-leb _ _ c.if-b-ge97.false)

pub returns-else-b-ge45 : goal.returns-else-b-ge45
unfolding name_byte
returns-else-b-ge45 c = simp (lt-leb _ _ c.if-b-ge45.false, lt-leb _ _ c.if-b-ge48.false, lt-leb _ _ c.if-b-ge65.false, lt-leb _ _ c.if-b-ge97.false)
