use borrow.Author.Tests.{eq-eqb, ne_eqb}
use Rattle.rules.specs.Rules.{code_no}
use Rattle.rules.proofs.code_no.Goals as goal

pub returns-then-form : goal.returns-then-form
unfolding code_no
returns-then-form c = simp (← c.type_no.ensures, eq-eqb _ _ c.if-form.true)

pub returns-then-form-2 : goal.returns-then-form-2
unfolding code_no
returns-then-form-2 c = simp (← c.direction_no.ensures, eq-eqb _ _ c.if-form-2.true, ne_eqb _ _ c.if-form.false)

pub returns : goal.returns
unfolding code_no
returns c = simp (ne_eqb _ _ c.if-form-2.false, ne_eqb _ _ c.if-form.false)
