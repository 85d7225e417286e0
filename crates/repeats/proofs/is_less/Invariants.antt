use Rattle.repeats.proofs.Order.{Compared}
use Rattle.repeats.proofs.is_less.Given as goal

abbrev pub invariant-loop-i : goal.invariant-loop-i
invariant-loop-i l = Compared l.x l.y l.i
