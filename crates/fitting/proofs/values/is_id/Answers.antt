use borrow.Author.Tests.{eq-eqb, ne_eqb}
use Rattle.fitting.specs.Told.{is_id}
use Rattle.fitting.proofs.values.is_id.Goals as goal

pub returns-then-form-eq-IDENTIFICATION_FORM : goal.returns-then-form-eq-IDENTIFICATION_FORM
unfolding is_id
returns-then-form-eq-IDENTIFICATION_FORM c = simp (eq-eqb _ _ c.if-form-eq-IDENTIFICATION_FORM.true)

pub returns : goal.returns
unfolding is_id
returns c = simp (ne_eqb _ _ c.if-form-eq-IDENTIFICATION_FORM.false)
