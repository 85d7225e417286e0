use lib.ListN.{drop}
use Rattle.escapes.specs.Escaped.{escaped}
use Rattle.escapes.proofs.Putting.{Put}
use Rattle.escapes.proofs.put_escaped.Given as goal

abbrev pub invariant-loop-i : goal.invariant-loop-i
invariant-loop-i l = Put (escaped l.v) l.initial.free l.free l.at (escaped (drop l.i l.v))
