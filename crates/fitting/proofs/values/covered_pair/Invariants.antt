use Rattle.fitting.proofs.Judging.{Covering}
use Rattle.fitting.proofs.values.covered_pair.Given as goal

abbrev pub invariant-loop-q : goal.invariant-loop-q
invariant-loop-q l = Covering l.rows l.k l.q
