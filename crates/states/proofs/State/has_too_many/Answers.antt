use borrow.Author.Tests.{eq-eqb, ne_eqb}
use Rattle.states.specs.Moves.{too_many}
use Rattle.states.proofs.State.has_too_many.Goals as goal

pub returns-then-takes_another : goal.returns-then-takes_another
unfolding too_many
returns-then-takes_another c = simp (c.if-takes_another.true, ← c.takes_another.ensures, ← c.count_of.ensures, eq-eqb _ _ c.if-role-eq-INTERVAL_ROLE.true)

pub returns-then-role-eq-INTERVAL_ROLE : goal.returns-then-role-eq-INTERVAL_ROLE
unfolding too_many
returns-then-role-eq-INTERVAL_ROLE c = simp (c.if-takes_another.false, ← c.takes_another.ensures, ← c.count_of.ensures, eq-eqb _ _ c.if-role-eq-INTERVAL_ROLE.true)

pub returns : goal.returns
unfolding too_many
returns c = simp (ne_eqb _ _ c.if-role-eq-INTERVAL_ROLE.false)
