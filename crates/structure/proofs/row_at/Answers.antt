use mathlib.Core.Path.{sym}
use lib.ListN.{get_or-eq_default}
use Rattle.structure.proofs.row_at.Goals as goal

pub returns : goal.returns
returns c = sym (get_or-eq_default c.args.t.now 0 c.if-r-t.false)
