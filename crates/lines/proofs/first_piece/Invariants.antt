use Rattle.lines.proofs.Cuts.{Passed}
use Rattle.lines.proofs.first_piece.Given as goal

abbrev pub invariant-loop-i : goal.invariant-loop-i
invariant-loop-i l = Passed l.end l.s l.i
