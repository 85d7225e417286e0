use borrow.Author.Tests.{le-ltb, lt-ltb}
use Rattle.states.specs.Moves.{one_more}
use Rattle.states.proofs.one_more.Goals as goal

pub returns-then-n-lt4294967295 : goal.returns-then-n-lt4294967295
unfolding one_more
returns-then-n-lt4294967295 c = simp (lt-ltb _ _ c.if-n-lt4294967295.true)

pub returns-else-n-lt4294967295 : goal.returns-else-n-lt4294967295
unfolding one_more
returns-else-n-lt4294967295 c = simp (le-ltb _ _ c.if-n-lt4294967295.false)
