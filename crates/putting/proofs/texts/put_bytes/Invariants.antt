use Rattle.putting.proofs.Lent.{Ran}
use Rattle.putting.proofs.texts.put_bytes.Given as goal

abbrev pub invariant-loop-i : goal.invariant-loop-i
invariant-loop-i l = Ran l.initial.out l.at l.t l.out l.i
