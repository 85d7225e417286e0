use borrow.Author.Tests.{eq-eqb, le-ltb, lt-ltb, ne_eqb}
use Rattle.structure.specs.Rows.{end_at}
use Rattle.structure.proofs.end_at.Goals as goal

pub returns-then-t-p : goal.returns-then-t-p
unfolding end_at
returns-then-t-p c = simp (le-ltb _ _ c.if-t-p.true)

pub returns-then-ends_in : goal.returns-then-ends_in
unfolding end_at
returns-then-ends_in c = simp (c.if-ends_in.true, ← c.ends_in.ensures, eq-eqb _ _ c.if-name_of-name.true, ← c.name_of.ensures, lt-ltb _ _ c.if-t-p.false)

pub returns-else-ends_in : goal.returns-else-ends_in
unfolding end_at
returns-else-ends_in c = simp (c.if-ends_in.false, ← c.ends_in.ensures, eq-eqb _ _ c.if-name_of-name.true, ← c.name_of.ensures, lt-ltb _ _ c.if-t-p.false)

pub returns-else-name_of-name : goal.returns-else-name_of-name
unfolding end_at
returns-else-name_of-name c = simp (ne_eqb _ _ c.if-name_of-name.false, ← c.name_of.ensures, lt-ltb _ _ c.if-t-p.false)
