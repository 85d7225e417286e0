use borrow.Author.Tests.{le-ltb, lt-ltb}
use Rattle.items.proofs.is_repeated.Goals as goal

pub returns-then-k-lt2 : goal.returns-then-k-lt2
returns-then-k-lt2 c = simp (lt-ltb _ _ c.if-k-lt2.true)

pub returns : goal.returns
returns c = simp (← c.has_twice.ensures, le-ltb _ _ c.if-k-lt2.false)
