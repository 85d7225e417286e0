use Rattle.repeats.proofs.Falling.{Falling}
use Rattle.repeats.proofs.falls.Given as goal

abbrev pub invariant-loop-k : goal.invariant-loop-k
invariant-loop-k l = Falling l.s l.n l.initial.h l.h l.k

abbrev pub decreases-loop-k : goal.decreases-loop-k
decreases-loop-k l = l.k
