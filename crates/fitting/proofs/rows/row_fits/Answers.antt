use mathlib.Core.Path.{refl, sym, ◌∙◌}
use borrow.Author.Tests.{le-leb, lt-leb}
use mir.Facts.{to_z-of_z}
use Rattle.fitting.specs.Told.{row_told}
use Rattle.fitting.proofs.rows.row_fits.Goals as goal

pub returns-then-p-gt-MOST_POS : goal.returns-then-p-gt-MOST_POS
unfolding row_told
returns-then-p-gt-MOST_POS c = rw (lt-leb _ _ c.if-p-gt-MOST_POS.true) refl

pub returns-then-not-is_position : goal.returns-then-not-is_position
unfolding row_told
returns-then-not-is_position c = rw (le-leb _ _ c.if-p-gt-MOST_POS.false, sym c.is_position.ensures ∙ c.if-not-is_position.true) refl

pub returns : goal.returns
unfolding row_told
returns c = rw (le-leb _ _ c.if-p-gt-MOST_POS.false, sym c.is_position.ensures ∙ c.if-not-is_position.false) (rw (to_z-of_z c.ranges.a) at c.is_amount_told.ensures)
