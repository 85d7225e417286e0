use Rattle.refusals.proofs.Numbers.{raised}
use Rattle.rules.specs.Judged.{settled}
use Rattle.rules.proofs.Taken.{told-settled, refusal-settled, settled-refusal, settled-taken}
use Rattle.states.specs.Moves.{values_judged}
use Rattle.states.proofs.Judgements.{beside-refused}
use Rattle.states.proofs.State.judge_values.Goals as goal

pub returns-then-has_half : goal.returns-then-has_half
unfolding values_judged settled
returns-then-has_half c = simp (c.if-has_half.true, ← c.has_half.ensures, ← c.role_of-role.ensures)

pub returns-in_err-j : goal.returns-in_err-j
unfolding values_judged
returns-in_err-j c = rw (raised _ _ c.from_residual.ensures.1) (simp (c.if-has_half.false, ← c.has_half.ensures, ← c.role_of-role.ensures) (refusal-settled _ _ (beside-refused _ _ _ _ _ (simp (← c.held.ensures) (settled-refusal _ _ c.in_err-j.ensures)))))

pub returns : goal.returns
unfolding values_judged
returns c = simp (settled-taken _ _ c.in_ok-j.ensures, ← c.held.ensures, c.if-has_half.false, ← c.has_half.ensures, ← c.role_of-role.ensures) (told-settled _ _ c.beside_others.ensures)
