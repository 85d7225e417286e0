use borrow.Author.Tests.{le-leb, lt-leb}
use Rattle.fitting.specs.Told.{rows_lent}
use Rattle.fitting.proofs.rows.are_rows_lent.Goals as goal

pub returns-then-end-positions : goal.returns-then-end-positions
unfolding rows_lent
returns-then-end-positions c = simp (le-leb _ _ c.if-end-positions.true)

pub returns-else-end-positions : goal.returns-else-end-positions
unfolding rows_lent
returns-else-end-positions c = simp (lt-leb _ _ c.if-end-positions.false)
