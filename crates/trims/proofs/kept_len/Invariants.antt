use Prim.Native.Nat.{◌-◌}
use lib.ListN.{length}
use Rattle.trims.proofs.Trimming.{Keeping}
use Rattle.trims.proofs.kept_len.Given as goal

abbrev pub invariant-loop-i : goal.invariant-loop-i
invariant-loop-i l = Keeping l.v l.i l.kept

abbrev pub decreases-loop-i : goal.decreases-loop-i
decreases-loop-i l = length l.v - l.i
