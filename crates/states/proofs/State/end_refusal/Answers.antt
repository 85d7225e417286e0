use borrow.Author.Tests.{eq-eqb, ne_eqb}
use Rattle.states.specs.Moves.{end_refusal}
use Rattle.states.proofs.State.end_refusal.Goals as goal

pub returns-then-role-eq-PERIOD_ROLE : goal.returns-then-role-eq-PERIOD_ROLE
unfolding end_refusal
returns-then-role-eq-PERIOD_ROLE c = simp (← c.count_refusal.ensures, ← c.count_of-n.ensures, eq-eqb _ _ c.if-role-eq-PERIOD_ROLE.true, ← c.role_of-role.ensures, ← c.row_at.ensures)

pub returns-then-role-eq-ROOT_ROLE : goal.returns-then-role-eq-ROOT_ROLE
unfolding end_refusal
returns-then-role-eq-ROOT_ROLE c = simp (← c.lack_refusal.ensures, eq-eqb _ _ c.if-role-eq-ROOT_ROLE.true, ne_eqb _ _ c.if-role-eq-PERIOD_ROLE.false, ← c.role_of-role.ensures, ← c.row_at.ensures)

pub returns : goal.returns
unfolding end_refusal
returns c = simp (ne_eqb _ _ c.if-role-eq-ROOT_ROLE.false, ne_eqb _ _ c.if-role-eq-PERIOD_ROLE.false, ← c.role_of-role.ensures, ← c.row_at.ensures)
