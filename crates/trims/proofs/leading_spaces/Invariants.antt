use Prim.Native.Nat.{◌-◌}
use lib.ListN.{length}
use Rattle.trims.proofs.Trimming.{Led}
use Rattle.trims.proofs.leading_spaces.Given as goal

abbrev pub invariant-loop-i : goal.invariant-loop-i
invariant-loop-i l = Led l.v l.i

abbrev pub decreases-loop-i : goal.decreases-loop-i
decreases-loop-i l = length l.v - l.i
