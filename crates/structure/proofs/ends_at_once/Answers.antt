use mathlib.Core.Path.{refl}
use Prim.Native.Nat.{◌+◌}
use native.Mathlib.Omega.{arith}
use Rattle.structure.proofs.Laws.{ends-end}
use Rattle.structure.specs.Rows.{ends_at_once}
use Rattle.structure.proofs.ends_at_once.Goals as goal

pub returns-then-t-row : goal.returns-then-t-row
unfolding ends_at_once
returns-then-t-row c = ends-end c.args.t.now (c.args.row + 1) c.args.row refl (omega arith)

pub returns : goal.returns
unfolding ends_at_once
returns c = simp (← c.ends_in.ensures)
