use Rattle.fitting.proofs.Loops.{Telling}
use Rattle.fitting.proofs.rows.every_series_fits.Given as goal

abbrev pub invariant-loop-i : goal.invariant-loop-i
invariant-loop-i l = Telling l.kind l.from l.to l.text l.pairs l.rows l.series l.positions l.amounts l.count l.i
