use Rattle.states.specs.Constraints.{noticed, withdrawing}
use borrow.Author.Tests.{eq-eqb, ne_eqb}
use Rattle.states.proofs.Seen.noticed.Goals as goal

pub returns-then-form_of : goal.returns-then-form_of
unfolding noticed withdrawing
returns-then-form_of c = simp (eq-eqb _ _ c.if-form_of.true, ← c.form_of.ensures)

pub returns-then-role-eq-BUSINESS_ROLE : goal.returns-then-role-eq-BUSINESS_ROLE
unfolding noticed withdrawing
returns-then-role-eq-BUSINESS_ROLE c = simp (← c.typed.ensures, eq-eqb _ _ c.if-role-eq-BUSINESS_ROLE.true, ← c.role_of-role.ensures, ne_eqb _ _ c.if-form_of.false, ← c.form_of.ensures)

pub returns-then-role-eq-DIRECTION_ROLE : goal.returns-then-role-eq-DIRECTION_ROLE
unfolding noticed withdrawing
returns-then-role-eq-DIRECTION_ROLE c = simp (← c.directed.ensures, eq-eqb _ _ c.if-role-eq-DIRECTION_ROLE.true, ne_eqb _ _ c.if-role-eq-BUSINESS_ROLE.false, ← c.role_of-role.ensures, ne_eqb _ _ c.if-form_of.false, ← c.form_of.ensures)

pub returns : goal.returns
unfolding noticed withdrawing
returns c = simp (ne_eqb _ _ c.if-role-eq-DIRECTION_ROLE.false, ne_eqb _ _ c.if-role-eq-BUSINESS_ROLE.false, ← c.role_of-role.ensures, ne_eqb _ _ c.if-form_of.false, ← c.form_of.ensures)
