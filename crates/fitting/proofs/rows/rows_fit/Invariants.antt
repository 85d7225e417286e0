use Rattle.fitting.proofs.Loops.{Rowing}
use Rattle.fitting.proofs.rows.rows_fit.Given as goal

abbrev pub invariant-loop-j : goal.invariant-loop-j
invariant-loop-j l = Rowing l.kind l.quarters l.positions l.amounts l.first l.count l.last l.j
