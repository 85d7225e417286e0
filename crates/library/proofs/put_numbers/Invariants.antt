use lib.ListN.{length}
use Rattle.library.proofs.Putting.{Put}
use Rattle.library.proofs.put_numbers.Given as goal

abbrev pub invariant-loop-i : goal.invariant-loop-i
invariant-loop-i l = Put (length l.initial.t) l.ns l.t l.i
