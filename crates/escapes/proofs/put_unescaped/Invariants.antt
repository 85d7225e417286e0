use Prim.Native.Nat.{◌-◌}
use lib.ListN.{length, drop}
use Rattle.escapes.specs.Spelled.{unescaped}
use Rattle.escapes.proofs.Putting.{Put}
use Rattle.escapes.proofs.put_unescaped.Given as goal

abbrev pub invariant-loop-i : goal.invariant-loop-i
invariant-loop-i l = Put (unescaped l.v) l.initial.free l.free l.at (unescaped (drop l.i l.v))

abbrev pub decreases-loop-i : goal.decreases-loop-i
decreases-loop-i l = length l.v - l.i
