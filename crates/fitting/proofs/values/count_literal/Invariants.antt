use Prim.Native.Nat.{◌-◌}
use lib.ListN.{length}
use Rattle.fitting.proofs.Judging.{Counted}
use Rattle.fitting.proofs.values.count_literal.Given as goal

abbrev pub invariant-loop-i : goal.invariant-loop-i
invariant-loop-i l = Counted l.v l.n l.i

abbrev pub decreases-loop-i : goal.decreases-loop-i
decreases-loop-i l = length l.v - l.i
