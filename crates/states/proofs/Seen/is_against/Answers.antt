use Rattle.states.specs.Constraints.{against}
use borrow.Author.Tests.{eq-eqb, ne_eqb}
use Rattle.states.proofs.Seen.is_against.Goals as goal

pub returns-then-self : goal.returns-then-self
unfolding against
returns-then-self c = simp (c.if-self.true, eq-eqb _ _ c.if-role-eq-SERIES_ROLE.true)

pub returns-then-role-eq-SERIES_ROLE : goal.returns-then-role-eq-SERIES_ROLE
unfolding against
returns-then-role-eq-SERIES_ROLE c = simp (c.if-self.false, eq-eqb _ _ c.if-role-eq-SERIES_ROLE.true)

pub returns-then-self-2 : goal.returns-then-self-2
unfolding against
returns-then-self-2 c = simp (c.if-self-2.true, eq-eqb _ _ c.if-role-eq-BUSINESS_ROLE.true, ne_eqb _ _ c.if-role-eq-SERIES_ROLE.false)

pub returns-then-role-eq-BUSINESS_ROLE : goal.returns-then-role-eq-BUSINESS_ROLE
unfolding against
returns-then-role-eq-BUSINESS_ROLE c = simp (c.if-self-2.false, eq-eqb _ _ c.if-role-eq-BUSINESS_ROLE.true, ne_eqb _ _ c.if-role-eq-SERIES_ROLE.false)

pub returns-then-role-eq-DIRECTION_ROLE : goal.returns-then-role-eq-DIRECTION_ROLE
unfolding against
returns-then-role-eq-DIRECTION_ROLE c = simp (← c.has_direction.ensures, eq-eqb _ _ c.if-role-eq-DIRECTION_ROLE.true, ne_eqb _ _ c.if-role-eq-BUSINESS_ROLE.false, ne_eqb _ _ c.if-role-eq-SERIES_ROLE.false)

pub returns : goal.returns
unfolding against
returns c = simp (ne_eqb _ _ c.if-role-eq-DIRECTION_ROLE.false, ne_eqb _ _ c.if-role-eq-BUSINESS_ROLE.false, ne_eqb _ _ c.if-role-eq-SERIES_ROLE.false)
