use lib.ListN.{drop}
use Rattle.escapes.proofs.Putting.{Put}
use Rattle.escapes.proofs.put_text.Given as goal

abbrev pub invariant-loop-i : goal.invariant-loop-i
invariant-loop-i l = Put l.t l.initial.free l.free l.i (drop l.i l.t)
