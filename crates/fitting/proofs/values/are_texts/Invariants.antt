use Rattle.fitting.proofs.Judging.{Texts}
use Rattle.fitting.proofs.values.are_texts.Given as goal

abbrev pub invariant-loop-k : goal.invariant-loop-k
invariant-loop-k l = Texts l.text l.pairs l.n l.k
