use Rattle.notes.proofs.Reading.{Sum}
use Rattle.notes.proofs.get_number.Given as goal

abbrev pub invariant-loop-i : goal.invariant-loop-i
invariant-loop-i l = Sum l.s l.i l.value l.unit l.least
