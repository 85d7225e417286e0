use Rattle.refusals.proofs.Numbers.{raised, refuses}
use Rattle.states.specs.Moves.{after_end_at, after_end}
use Rattle.states.proofs.State.ended.Goals as goal

pub returns-in_err-end_refusal-in-Some : goal.returns-in_err-end_refusal-in-Some
unfolding after_end after_end_at
returns-in_err-end_refusal-in-Some c = rw (raised _ _ c.from_residual.ensures.1) (simp (refuses c.in_err-end_refusal-in-Some.field-0.0, ← c.in_err-end_refusal-in-Some.ensures, c.in-Some.is, ← c.end_after.ensures))

pub returns-in_ok-end_refusal-in-Some : goal.returns-in_ok-end_refusal-in-Some
unfolding after_end after_end_at
returns-in_ok-end_refusal-in-Some c = simp (← c.left.ensures, ← c.in_ok-end_refusal-in-Some.ensures, c.in-Some.is, ← c.end_after.ensures)

pub returns-in-None : goal.returns-in-None
unfolding after_end after_end_at
returns-in-None c = simp (c.in-None.is, ← c.end_after.ensures)
