use Rattle.refusals.proofs.Numbers.{raised}
use Rattle.reader.specs.Reading.{without_used}
use Rattle.reader.proofs.step_in.Goals as goal

pub returns-then-is_used_before : goal.returns-then-is_used_before
unfolding without_used
returns-then-is_used_before c = simp (c.if-is_used_before.true, ← c.is_used_before.ensures, ← c.span_of.ensures, ← c.step.ensures, c.in_ok-next.was)

pub returns : goal.returns
unfolding without_used
returns c = simp (c.if-is_used_before.false, ← c.is_used_before.ensures, ← c.span_of.ensures, ← c.step.ensures, c.in_ok-next.was)

pub returns-in_err-next : goal.returns-in_err-next
unfolding without_used
returns-in_err-next c = rw (raised _ _ c.from_residual.ensures.1) (simp (← c.in_err-next.ensures))
