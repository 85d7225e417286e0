use Prim.Native.Nat.{◌+◌, ◌-◌, ◌≤◌}
use lib.ListN.{length}
use Rattle.slices.proofs.Walks.{Walked}
use Rattle.items.specs.Item.{item}
use Rattle.readable.specs.Readable.{pass_next, pass_over}
use Rattle.readable.proofs.passed_len.Given as goal

abbrev pub invariant-loop-i : goal.invariant-loop-i
invariant-loop-i l = Walked (item 0) pass_next pass_over 0 l.s l.i l.i × (l.i ≤ length l.s + 8)

abbrev pub decreases-loop-i : goal.decreases-loop-i
decreases-loop-i l = length l.s - l.i
