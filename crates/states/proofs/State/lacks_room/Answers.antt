use borrow.Author.Tests.{eq-eqb, ne_eqb}
use Rattle.states.specs.Moves.{no_room}
use Rattle.states.proofs.State.lacks_room.Goals as goal

pub returns-then-role-eq-SERIES_ROLE : goal.returns-then-role-eq-SERIES_ROLE
unfolding no_room
returns-then-role-eq-SERIES_ROLE c = simp (eq-eqb _ _ c.if-role-eq-SERIES_ROLE.true)

pub returns-then-role-eq-INTERVAL_ROLE : goal.returns-then-role-eq-INTERVAL_ROLE
unfolding no_room
returns-then-role-eq-INTERVAL_ROLE c = simp (eq-eqb _ _ c.if-role-eq-INTERVAL_ROLE.true, ne_eqb _ _ c.if-role-eq-SERIES_ROLE.false)

pub returns : goal.returns
unfolding no_room
returns c = simp (ne_eqb _ _ c.if-role-eq-INTERVAL_ROLE.false, ne_eqb _ _ c.if-role-eq-SERIES_ROLE.false)
