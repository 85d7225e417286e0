use Rattle.fitting.specs.Told.{said_of}
use Rattle.fitting.proofs.Judging.{as-trimmed}
use Rattle.fitting.proofs.values.said_of.Goals as goal

pub returns-then-is_collapsed : goal.returns-then-is_collapsed
unfolding said_of
returns-then-is_collapsed c = simp (c.if-is_collapsed.true, ← c.is_collapsed.ensures, as-trimmed _ c.trimmed.ensures)

pub returns : goal.returns
unfolding said_of
returns c = simp (c.if-is_collapsed.false, ← c.is_collapsed.ensures)
