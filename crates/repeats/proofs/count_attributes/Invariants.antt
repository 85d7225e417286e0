use Prim.Native.Nat.{◌-◌}
use lib.ListN.{length}
use Rattle.repeats.proofs.Counted.{Counted}
use Rattle.repeats.proofs.count_attributes.Given as goal

abbrev pub invariant-loop-i : goal.invariant-loop-i
invariant-loop-i l = Counted length l.s l.from l.n l.i

abbrev pub decreases-loop-i : goal.decreases-loop-i
decreases-loop-i l = length l.s - l.i
