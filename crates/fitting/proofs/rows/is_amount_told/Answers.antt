use mathlib.Core.Path.{◌∙◌}
use mir.Facts.{to_z-of_z}
use Rattle.fitting.proofs.Loops.{amount-above, amount-below}
use Rattle.fitting.proofs.rows.is_amount_told.Goals as goal

pub returns-then-a : goal.returns-then-a
returns-then-a c = let f = c.ranges.a in rw (to_z-of_z f) (amount-above _ (rw (to_z-of_z f) at c.if-a.true))

pub returns-else-a : goal.returns-else-a
returns-else-a c = let f = c.ranges.a in let e = rw (to_z-of_z f) at c.if-a.false in rw (to_z-of_z f) (e ∙ amount-below _ e)
