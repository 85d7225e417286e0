use borrow.Author.Tests.{eq-eqb, ne_eqb}
use Rattle.notes.proofs.new_note.Goals as goal

pub returns-then-mark-ne-MARK : goal.returns-then-mark-ne-MARK
returns-then-mark-ne-MARK c = simp (ne_eqb _ _ c.if-mark-ne-MARK.true)

pub returns-then-refusal-eq-MARK : goal.returns-then-refusal-eq-MARK
returns-then-refusal-eq-MARK c = simp (eq-eqb _ _ c.if-mark-ne-MARK.false, eq-eqb _ _ c.if-refusal-eq-MARK.true)

pub returns : goal.returns
returns c = simp (eq-eqb _ _ c.if-mark-ne-MARK.false, ne_eqb _ _ c.if-refusal-eq-MARK.false)
