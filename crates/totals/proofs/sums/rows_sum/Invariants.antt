use Rattle.totals.proofs.Standing.{Added}
use Rattle.totals.proofs.sums.rows_sum.Given as goal

abbrev pub invariant-loop-j : goal.invariant-loop-j
invariant-loop-j l = Added l.positions l.amounts l.last l.w l.j
