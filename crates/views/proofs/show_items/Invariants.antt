use Prim.Native.Nat.{◌-◌}
use lib.ListN.{length}
use Rattle.views.proofs.Walk.{Shows}
use Rattle.views.proofs.show_items.Given as goal

abbrev pub invariant-loop-at : goal.invariant-loop-at
invariant-loop-at l = Shows l.doc l.from l.rows l.initial.t l.t l.n l.at

abbrev pub decreases-loop-at : goal.decreases-loop-at
decreases-loop-at l = length l.doc - l.at
