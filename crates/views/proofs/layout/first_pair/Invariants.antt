use Prim.Native.Nat.{◌-◌}
use Rattle.views.proofs.Slots.{Pairing}
use Rattle.views.proofs.layout.first_pair.Given as goal

abbrev pub invariant-loop-i : goal.invariant-loop-i
invariant-loop-i l = Pairing l.rows l.row l.k l.i
