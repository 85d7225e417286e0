use borrow.Author.Tests.{eq-eqb, ne_eqb}
use Rattle.states.specs.Moves.{half_originals}
use Rattle.states.proofs.State.has_half.Goals as goal

pub returns-then-self-eq0 : goal.returns-then-self-eq0
unfolding half_originals
returns-then-self-eq0 c = simp (eq-eqb _ _ c.if-self-eq0.true, eq-eqb _ _ c.if-role-eq-PERIOD_ROLE.true)

pub returns-then-self-eq5 : goal.returns-then-self-eq5
unfolding half_originals
returns-then-self-eq5 c = simp (eq-eqb _ _ c.if-self-eq5.true, ne_eqb _ _ c.if-self-eq0.false, eq-eqb _ _ c.if-role-eq-PERIOD_ROLE.true)

pub returns-then-role-eq-PERIOD_ROLE : goal.returns-then-role-eq-PERIOD_ROLE
unfolding half_originals
returns-then-role-eq-PERIOD_ROLE c = simp (ne_eqb _ _ c.if-self-eq5.false, ne_eqb _ _ c.if-self-eq0.false, eq-eqb _ _ c.if-role-eq-PERIOD_ROLE.true)

pub returns : goal.returns
unfolding half_originals
returns c = simp (ne_eqb _ _ c.if-role-eq-PERIOD_ROLE.false)
