use mathlib.Core.Path.{sym}
use lib.Seq.{length-take-le, take_all}
use native.Mathlib.Nat.{le_of_lt}
use Rattle.guideline.proofs.rows_up_to.Goals as goal

pub slice_bounds-result-end : goal.slice_bounds-result-end
slice_bounds-result-end c = sym (length-take-le c.args.n c.args.rows.now c.if-n-rows.true)

pub returns-else-n-rows : goal.returns-else-n-rows
returns-else-n-rows c = sym (take_all c.args.n c.args.rows.now (le_of_lt c.if-n-rows.false))
