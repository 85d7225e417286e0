use Prim.Native.Nat.{◌-◌}
use lib.ListN.{length}
use Rattle.slices.proofs.Walks.{Walked}
use Rattle.attributes.specs.Attribute.{value_next, value_over}
use Rattle.characters.specs.Says.{met}
use Rattle.attributes.proofs.value_at.Given as goal

abbrev pub invariant-loop-i : goal.invariant-loop-i
invariant-loop-i l = Walked met (value_next l.q) value_over 0 l.s l.i l.i

abbrev pub decreases-loop-i : goal.decreases-loop-i
decreases-loop-i l = length l.s - l.i
