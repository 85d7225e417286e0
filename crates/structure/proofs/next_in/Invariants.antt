use mathlib.Core.Path.{◌≡◌}
use lib.ListN.{drop}
use Rattle.structure.specs.Rows.{next_in}
use Rattle.structure.proofs.next_in.Given as goal

abbrev pub invariant-loop-i : goal.invariant-loop-i
invariant-loop-i l = next_in (drop l.i l.t) l.i l.p l.name ≡ next_in (drop l.from l.t) l.from l.p l.name
