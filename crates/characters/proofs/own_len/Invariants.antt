use Rattle.characters.proofs.Alike.{Owned}
use Rattle.characters.proofs.own_len.Given as goal

abbrev pub invariant-loop-i : goal.invariant-loop-i
invariant-loop-i l = Owned l.a l.b l.i
