use Rattle.states.specs.Constraints.{typed, changing, unchanging}
use borrow.Author.Tests.{eq-eqb, ne_eqb}
use Rattle.states.proofs.Seen.typed.Goals as goal

pub returns-then-code-eq-CHANGE_TYPE : goal.returns-then-code-eq-CHANGE_TYPE
unfolding typed changing unchanging
returns-then-code-eq-CHANGE_TYPE c = simp (eq-eqb _ _ c.if-code-eq-CHANGE_TYPE.true)

pub returns-then-code-eq-BEARING_TYPE : goal.returns-then-code-eq-BEARING_TYPE
unfolding typed changing unchanging
returns-then-code-eq-BEARING_TYPE c = simp (eq-eqb _ _ c.if-code-eq-BEARING_TYPE.true, ne_eqb _ _ c.if-code-eq-CHANGE_TYPE.false)

pub returns-else-code-eq-BEARING_TYPE : goal.returns-else-code-eq-BEARING_TYPE
unfolding typed changing unchanging
returns-else-code-eq-BEARING_TYPE c = simp (ne_eqb _ _ c.if-code-eq-BEARING_TYPE.false, ne_eqb _ _ c.if-code-eq-CHANGE_TYPE.false)
