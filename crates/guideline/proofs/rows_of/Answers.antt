use Rattle.guideline.specs.Rows.{rows_in}
use Rattle.guideline.proofs.rows_of.Goals as goal

pub returns : goal.returns
unfolding rows_in
returns c = simp (← c.rows_up_to.ensures, ← c.rows_from.ensures, ← c.kind_at-k.ensures)
