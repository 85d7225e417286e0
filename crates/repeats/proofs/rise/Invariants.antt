use Prim.Native.Nat.{◌+◌, ◌≤◌}
use Rattle.repeats.proofs.Table.{Held}
use Rattle.repeats.proofs.rise.Given as goal

abbrev pub invariant-loop-i : goal.invariant-loop-i
invariant-loop-i l = Held (l.last + 1) l.initial.h l.h × (l.i ≤ l.last)

abbrev pub decreases-loop-i : goal.decreases-loop-i
decreases-loop-i l = l.i
