use lib.ListN.{length}
use Rattle.notes.proofs.Writing.{Wr}
use Rattle.notes.proofs.write_numbers.Given as goal

abbrev pub invariant-loop-i : goal.invariant-loop-i
invariant-loop-i l = Wr (length l.initial.note) l.ns l.note l.at l.i
