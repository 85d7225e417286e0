use Rattle.fitting.proofs.Judging.{Singles}
use Rattle.fitting.proofs.values.singles_fit.Given as goal

abbrev pub invariant-loop-q : goal.invariant-loop-q
invariant-loop-q l = Singles l.kind l.from l.to l.text l.pairs l.rows l.row l.k l.q l.next
