use Rattle.lines.proofs.Hex.{Shown}
use Rattle.lines.proofs.put_hex.Given as goal

abbrev pub invariant-loop-i : goal.invariant-loop-i
invariant-loop-i l = Shown l.s l.initial.out l.out l.n l.i
