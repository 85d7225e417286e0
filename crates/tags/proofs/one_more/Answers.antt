use borrow.Author.Tests.{le-ltb, lt-ltb}
use Rattle.tags.specs.Known.{up_to_two}
use Rattle.tags.proofs.one_more.Goals as goal

pub returns-then-many-lt2 : goal.returns-then-many-lt2
unfolding up_to_two
returns-then-many-lt2 c = simp (lt-ltb _ _ c.if-many-lt2.true)

pub returns-else-many-lt2 : goal.returns-else-many-lt2
unfolding up_to_two
returns-else-many-lt2 c = simp (le-ltb _ _ c.if-many-lt2.false)
