use Rattle.slices.proofs.Walks.{Walked}
use Rattle.slices.specs.Same.{begins, seek, here}
use Rattle.slices.proofs.first_at.Given as goal

abbrev pub invariant-loop-i : goal.invariant-loop-i
invariant-loop-i l = Walked (begins l.t) seek here 0 l.s l.i l.i
