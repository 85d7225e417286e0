use Prim.Native.Nat.{◌-◌}
use lib.ListN.{length}
use Rattle.repeats.proofs.Collected.{Collected}
use Rattle.repeats.proofs.collect.Given as goal

abbrev pub invariant-loop-i : goal.invariant-loop-i
invariant-loop-i l = Collected l.s l.from l.initial.h l.h l.n l.i

abbrev pub decreases-loop-i : goal.decreases-loop-i
decreases-loop-i l = length l.s - l.i
