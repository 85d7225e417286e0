use Prim.Native.Nat.{◌-◌}
use lib.ListN.{length}
use Rattle.repeats.specs.Bearers.{bearers}
use Rattle.repeats.proofs.Counted.{Counted}
use Rattle.repeats.proofs.count_bearers.Given as goal

abbrev pub invariant-loop-i : goal.invariant-loop-i
invariant-loop-i l = Counted (bearers l.x) l.s l.from l.n l.i

abbrev pub decreases-loop-i : goal.decreases-loop-i
decreases-loop-i l = length l.s - l.i
