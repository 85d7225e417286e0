-- `references_run::show_said` is safe and ends: each turn passes what says a character.
-- Assumes nothing.
use native.Mathlib.Omega.{arith}
use Rattle.references_run.proofs.show_said.Goals as goal

pub overflow_add-i : goal.overflow_add-i
overflow_add-i g c = omega (arith, rw c.in-Some.is at c.said_at.ensures.size)

pub loop-i-smaller : goal.loop-i-smaller
loop-i-smaller g c = omega (arith, rw c.in-Some.is at c.said_at.ensures.size)
