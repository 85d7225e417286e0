use Rattle.tags.specs.Known.{with_dtd}
use Rattle.tags.proofs.Dtd.noted.Goals as goal

pub returns-then-is_same : goal.returns-then-is_same
unfolding with_dtd
returns-then-is_same c = simp (c.if-is_same.true, ← c.is_same.ensures)

pub returns-then-is_same-2 : goal.returns-then-is_same-2
unfolding with_dtd
returns-then-is_same-2 c = simp (c.if-is_same-2.true, ← c.is_same-2.ensures, c.if-is_same.false, ← c.is_same.ensures)

pub returns : goal.returns
unfolding with_dtd
returns c = simp (c.if-is_same-2.false, ← c.is_same-2.ensures, c.if-is_same.false, ← c.is_same.ensures)
