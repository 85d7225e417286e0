use Rattle.notes.proofs.Reading.{Rd}
use Rattle.notes.proofs.read_numbers.Given as goal

abbrev pub invariant-loop-i : goal.invariant-loop-i
invariant-loop-i g l = Rd g.row.N l.s l.ns l.at l.i
