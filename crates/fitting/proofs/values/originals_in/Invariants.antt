use Rattle.fitting.proofs.Judging.{Originals}
use Rattle.fitting.proofs.values.originals_in.Given as goal

abbrev pub invariant-loop-q : goal.invariant-loop-q
invariant-loop-q l = Originals l.pairs l.rows l.row l.k l.n l.q l.next
