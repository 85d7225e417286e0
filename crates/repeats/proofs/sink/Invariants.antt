use Prim.Native.Nat.{◌-◌, ◌≤◌}
use Rattle.repeats.proofs.Table.{Held}
use Rattle.repeats.proofs.sink.Given as goal

abbrev pub invariant-loop-i : goal.invariant-loop-i
invariant-loop-i l = Held l.n l.initial.h l.h × (l.i ≤ l.n)

abbrev pub decreases-loop-i : goal.decreases-loop-i
decreases-loop-i l = l.n - l.i
