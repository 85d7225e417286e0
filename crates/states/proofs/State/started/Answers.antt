use Rattle.refusals.proofs.Numbers.{raised, refuses}
use Rattle.rules.proofs.Taken.{settled-refusal, settled-taken}
use Rattle.states.specs.Moves.{started_by, started_at, started}
use Rattle.states.proofs.State.started.Goals as goal

pub returns-in_err-j-in-Some : goal.returns-in_err-j-in-Some
unfolding started started_at started_by
returns-in_err-j-in-Some c = rw (raised _ _ c.from_residual.ensures.1) (simp (refuses c.in_err-j-in-Some.field-0.0, settled-refusal _ _ c.in_err-j-in-Some.ensures, c.in-Some.is, ← c.start_after.ensures))

pub returns-in_ok-j-in-Some : goal.returns-in_ok-j-in-Some
unfolding started started_at started_by
returns-in_ok-j-in-Some c = simp (← c.entry_of.ensures, ← c.role_of.ensures, ← c.entered.ensures, ← c.row_at-w.ensures, settled-taken _ _ c.in_ok-j-in-Some.ensures, c.in-Some.is, ← c.start_after.ensures)

pub returns-in-None : goal.returns-in-None
unfolding started started_at started_by
returns-in-None c = simp (c.in-None.is, ← c.start_after.ensures)
