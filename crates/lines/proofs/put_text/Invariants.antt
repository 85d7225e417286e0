use Rattle.lines.proofs.Copies.{Copied}
use Rattle.lines.proofs.put_text.Given as goal

abbrev pub invariant-loop-i : goal.invariant-loop-i
invariant-loop-i l = Copied l.s l.initial.out l.out l.n l.i
