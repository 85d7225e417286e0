use Rattle.reader.specs.Reading.{ended_at}
use Rattle.reader.proofs.ended_at.Goals as goal

pub returns-then-is_over : goal.returns-then-is_over
unfolding ended_at
returns-then-is_over c = simp (← c.accepted_at.ensures, c.if-is_over.true, ← c.is_over.ensures)

pub returns : goal.returns
unfolding ended_at
returns c = simp (← c.refused_at.ensures, c.if-is_over.false, ← c.is_over.ensures)
