use Prim.Native.Nat.{◌-◌}
use lib.ListN.{length}
use Rattle.characters.proofs.Alike.{Abreast}
use Rattle.characters.proofs.says_same.Given as goal

abbrev pub invariant-loop-i : goal.invariant-loop-i
invariant-loop-i l = Abreast l.a l.b l.i l.k

abbrev pub decreases-loop-i : goal.decreases-loop-i
decreases-loop-i l = length l.a - l.i
