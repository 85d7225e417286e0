use borrow.Author.Tests.{le-ltb, lt-ltb}
use Rattle.structure.specs.Rows.{end_of}
use Rattle.structure.proofs.end_after.Goals as goal

pub returns-then-t-row : goal.returns-then-t-row
unfolding end_of
returns-then-t-row c = simp (le-ltb _ _ c.if-t-row.true)

pub returns-then-inside : goal.returns-then-inside
unfolding end_of
returns-then-inside c = simp (← c.end_at.ensures, c.if-inside.true, lt-ltb _ _ c.if-t-row.false)

pub returns : goal.returns
unfolding end_of
returns c = simp (← c.end_at-2.ensures, ← c.parent_of.ensures, c.if-inside.false, lt-ltb _ _ c.if-t-row.false)
