use Prim.Native.Nat.{◌+◌, ◌-◌, ◌≤◌}
use lib.ListN.{length}
use Rattle.elements.proofs.Rows.{Left}
use Rattle.elements.proofs.told.Given as goal

abbrev pub invariant-loop-i : goal.invariant-loop-i
invariant-loop-i l = (l.i ≤ length l.row + 1) × Left l.n l.name l.row l.found l.i

abbrev pub decreases-loop-i : goal.decreases-loop-i
decreases-loop-i l = length l.row + 1 - l.i
