use borrow.Author.Tests.{eq-eqb, ne_eqb}
use Rattle.states.specs.Attributes.{asks_v}
use Rattle.states.proofs.asks_v.Goals as goal

pub returns-then-form_of-eq-NO_FORM : goal.returns-then-form_of-eq-NO_FORM
unfolding asks_v
returns-then-form_of-eq-NO_FORM c = simp (eq-eqb _ _ c.if-form_of-eq-NO_FORM.true, ← c.form_of.ensures)

pub returns-else-form_of-eq-NO_FORM : goal.returns-else-form_of-eq-NO_FORM
unfolding asks_v
returns-else-form_of-eq-NO_FORM c = simp (ne_eqb _ _ c.if-form_of-eq-NO_FORM.false, ← c.form_of.ensures)
