use borrow.Author.Tests.{eq-eqb, ne_eqb}
use Rattle.notes.proofs.old_note.Goals as goal

pub returns-then-first-eq-MARK : goal.returns-then-first-eq-MARK
returns-then-first-eq-MARK c = simp (eq-eqb _ _ c.if-first-eq-MARK.true)

pub returns : goal.returns
returns c = simp (ne_eqb _ _ c.if-first-eq-MARK.false)
