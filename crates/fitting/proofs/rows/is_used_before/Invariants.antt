use Rattle.fitting.proofs.Loops.{Unused}
use Rattle.fitting.proofs.rows.is_used_before.Given as goal

abbrev pub invariant-loop-j : goal.invariant-loop-j
invariant-loop-j l = Unused l.text l.pairs l.i l.j
