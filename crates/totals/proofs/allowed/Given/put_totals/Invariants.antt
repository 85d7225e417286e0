use lib.ListN.{length}
use Rattle.totals.specs.Given.{handed_of}
use Rattle.totals.proofs.Adding.{Summed}
use Rattle.totals.proofs.allowed.Given.put_totals.Given as goal

abbrev pub invariant-loop-i : goal.invariant-loop-i
invariant-loop-i l = Summed (handed_of l.self) (length l.initial.totals) l.totals l.w l.n l.i
