use Rattle.tags.specs.Known.{dtd_name}
use Rattle.tags.proofs.is_dtd_name.Goals as goal

pub returns-then-is_same : goal.returns-then-is_same
unfolding dtd_name
returns-then-is_same c = simp (c.if-is_same.true, ← c.is_same.ensures)

pub returns-then-is_same-2 : goal.returns-then-is_same-2
unfolding dtd_name
returns-then-is_same-2 c = simp (c.if-is_same-2.true, ← c.is_same-2.ensures, c.if-is_same.false, ← c.is_same.ensures)

pub returns : goal.returns
unfolding dtd_name
returns c = simp (← c.is_same-3.ensures, c.if-is_same-2.false, ← c.is_same-2.ensures, c.if-is_same.false, ← c.is_same.ensures)
