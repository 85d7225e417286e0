use borrow.Author.Tests.{ne_eqb}
use Rattle.guideline.specs.Kinds.{kind_at}
use Rattle.guideline.proofs.kind_at.Goals as goal

pub returns-in-1 : goal.returns-in-1
unfolding kind_at
returns-in-1 c = rw c.in-1.is c.one.ensures

pub returns-in-2 : goal.returns-in-2
unfolding kind_at
returns-in-2 c = rw c.in-2.is c.two.ensures

pub returns-in-3 : goal.returns-in-3
unfolding kind_at
returns-in-3 c = rw c.in-3.is c.three.ensures

pub returns-in_default : goal.returns-in_default
unfolding kind_at
returns-in_default c = simp (
  ne_eqb _ _ c.in_default.in_default-own.rest.1,
  ne_eqb _ _ c.in_default.in_default-own.rest.0.1,
  ne_eqb _ _ c.in_default.in_default-own.rest.0.0.1,
  ← c.unknown.ensures,
)
