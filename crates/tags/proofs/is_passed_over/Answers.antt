use Rattle.tags.specs.Known.{passed_over}
use Rattle.tags.proofs.is_passed_over.Goals as goal

pub returns-then-is_same : goal.returns-then-is_same
unfolding passed_over
returns-then-is_same c = simp (c.if-is_same.true, ← c.is_same.ensures)

pub returns-then-begins_with : goal.returns-then-begins_with
unfolding passed_over
returns-then-begins_with c = simp (c.if-begins_with.true, ← c.begins_with.ensures, c.if-is_same.false, ← c.is_same.ensures)

pub returns : goal.returns
unfolding passed_over
returns c = simp (← c.begins_with-2.ensures, c.if-begins_with.false, ← c.begins_with.ensures, c.if-is_same.false, ← c.is_same.ensures)
