use Rattle.states.specs.Constraints.{lacking}
use borrow.Author.Tests.{eq-eqb, ne_eqb}
use Rattle.states.proofs.Seen.is_lacking.Goals as goal

pub returns-then-self : goal.returns-then-self
unfolding lacking
returns-then-self c = simp c.if-self.true

pub returns-then-series-eq0 : goal.returns-then-series-eq0
unfolding lacking
returns-then-series-eq0 c = simp (eq-eqb _ _ c.if-series-eq0.true, c.if-self.false)

pub returns-then-self-2 : goal.returns-then-self-2
unfolding lacking
returns-then-self-2 c = simp (c.if-self-2.true, ne_eqb _ _ c.if-series-eq0.false, c.if-self.false)

pub returns : goal.returns
unfolding lacking
returns c = simp (c.if-self-2.false, ne_eqb _ _ c.if-series-eq0.false, c.if-self.false)
