use Prim.Native.Nat.{◌-◌}
use mathlib.Core.Path.{◌≡◌}
use lib.ListN.{length}
use Rattle.repeats.proofs.Passes.{Passed}
use Rattle.repeats.proofs.by_order.Given as goal

abbrev pub invariant-loop-seen : goal.invariant-loop-seen
invariant-loop-seen l = (length l.h ≡ length l.initial.h) × Passed l.s l.from l.last l.seen

abbrev pub decreases-loop-seen : goal.decreases-loop-seen
decreases-loop-seen l = l.n - l.seen
