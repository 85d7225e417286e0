use Prim.Native.Nat.{◌-◌}
use lib.ListN.{length}
use Rattle.repeats.proofs.Paired.{Paired}
use Rattle.repeats.proofs.by_pairs.Given as goal

abbrev pub invariant-loop-i : goal.invariant-loop-i
invariant-loop-i l = Paired l.s l.from l.i

abbrev pub decreases-loop-i : goal.decreases-loop-i
decreases-loop-i l = length l.s - l.i
