use borrow.Author.Tests.{eq-eqb, ne_eqb}
use Rattle.tags.specs.First.{first_known}
use Rattle.tags.proofs.first_known.Goals as goal

pub returns-then-m-eq0 : goal.returns-then-m-eq0
unfolding first_known
returns-then-m-eq0 c = simp (← c.none.ensures, eq-eqb _ _ c.if-m-eq0.true)

pub returns : goal.returns
unfolding first_known
returns c = simp (← c.only_v.ensures, ne_eqb _ _ c.if-m-eq0.false)
