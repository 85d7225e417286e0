use Rattle.tags.specs.Known.{with_attribute}
use Rattle.tags.proofs.Known.noted.Goals as goal

pub returns-then-is_v : goal.returns-then-is_v
unfolding with_attribute
returns-then-is_v c = simp (c.if-is_v.true, ← c.is_v.ensures, ← c.one_more.ensures)

pub returns-then-is_same : goal.returns-then-is_same
unfolding with_attribute
returns-then-is_same c = simp (c.if-is_same.true, ← c.is_same.ensures, c.if-is_v.false, ← c.is_v.ensures, ← c.one_more.ensures)

pub returns-then-is_dtd_name : goal.returns-then-is_dtd_name
unfolding with_attribute
returns-then-is_dtd_name c = simp (← c.noted-self.ensures, c.if-is_dtd_name.true, ← c.is_dtd_name.ensures, c.if-is_same.false, ← c.is_same.ensures, c.if-is_v.false, ← c.is_v.ensures, ← c.one_more.ensures)

pub returns-then-is_passed_over : goal.returns-then-is_passed_over
unfolding with_attribute
returns-then-is_passed_over c = simp (c.if-is_passed_over.true, ← c.is_passed_over.ensures, c.if-is_dtd_name.false, ← c.is_dtd_name.ensures, c.if-is_same.false, ← c.is_same.ensures, c.if-is_v.false, ← c.is_v.ensures, ← c.one_more.ensures)

pub returns : goal.returns
unfolding with_attribute
returns c = simp (c.if-is_passed_over.false, ← c.is_passed_over.ensures, c.if-is_dtd_name.false, ← c.is_dtd_name.ensures, c.if-is_same.false, ← c.is_same.ensures, c.if-is_v.false, ← c.is_v.ensures, ← c.one_more.ensures)
