use borrow.Author.Tests.{eq-eqb, ne_eqb}
use Rattle.rules.specs.Judged.{settled}
use Rattle.rules.proofs.Taken.{told-settled, refusal-settled}
use Rattle.states.specs.Attributes.{least, also_scheme, judge_tag}
use Rattle.states.proofs.Judgements.{also-none}
use Rattle.states.proofs.judge_tag.Goals as goal

pub returns-then-is_dtd_fixed : goal.returns-then-is_dtd_fixed
unfolding judge_tag also_scheme settled
returns-then-is_dtd_fixed c = simp (c.if-is_dtd_fixed.true, ← c.is_dtd_fixed.ensures, c.if-is_root.true, ← c.is_root.ensures)

pub returns-then-is_root : goal.returns-then-is_root
unfolding judge_tag also_scheme settled
returns-then-is_root c = simp (c.if-is_dtd_fixed.false, ← c.is_dtd_fixed.ensures, c.if-is_root.true, ← c.is_root.ensures)

pub returns-then-form-eq-NO_FORM : goal.returns-then-form-eq-NO_FORM
unfolding judge_tag also_scheme settled
returns-then-form-eq-NO_FORM c = simp (eq-eqb _ _ c.if-form-eq-NO_FORM.true, ← c.form_of-form.ensures, c.if-is_root.false, ← c.is_root.ensures)

pub returns-in-Ok : goal.returns-in-Ok
unfolding judge_tag
returns-in-Ok c = simp (also-none, ← c.in-Ok.ensures, ← c.value_of.ensures, ne_eqb _ _ c.if-form-eq-NO_FORM.false, ← c.form_of-form.ensures, c.if-is_root.false, ← c.is_root.ensures) (told-settled _ _ c.judge_value-said.ensures)

pub returns-in-Ok-said : goal.returns-in-Ok-said
unfolding judge_tag also_scheme least
returns-in-Ok-said c = refusal-settled _ _ (simp (← c.in-Err.ensures, ← c.in-Ok-said.ensures, ← c.value_of.ensures, ne_eqb _ _ c.if-form-eq-NO_FORM.false, ← c.form_of-form.ensures, c.if-is_root.false, ← c.is_root.ensures))

pub returns-in-Err-said : goal.returns-in-Err-said
unfolding judge_tag also_scheme
returns-in-Err-said c = refusal-settled _ _ (simp (c.least_of.ensures, ← c.in-Err.ensures, ← c.in-Err-said.ensures, ← c.value_of.ensures, ne_eqb _ _ c.if-form-eq-NO_FORM.false, ← c.form_of-form.ensures, c.if-is_root.false, ← c.is_root.ensures))
