use Rattle.putting.proofs.Singles.{Going}
use Rattle.putting.proofs.put_singles.Given as goal

abbrev pub invariant-loop-q : goal.invariant-loop-q
invariant-loop-q l = Going l.initial.out l.at l.text l.pairs l.rows l.row l.k l.out l.end l.q l.next
