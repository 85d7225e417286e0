use mathlib.Core.Path.{◌≡◌}
use lib.ListN.{drop}
use Rattle.structure.specs.Rows.{ends_in}
use Rattle.structure.proofs.ends_in.Given as goal

abbrev pub invariant-loop-i : goal.invariant-loop-i
invariant-loop-i l = ends_in (drop l.i l.t) l.p ≡ ends_in (drop l.from l.t) l.p
