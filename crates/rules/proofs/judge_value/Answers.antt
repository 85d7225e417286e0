use mathlib.Core.Path.{ap}
use borrow.Author.Tests.{eq-eqb, ne_eqb}
use Rattle.refusals.proofs.Numbers.{raised}
use Rattle.rules.specs.Rules.{judge, refused}
use Rattle.rules.proofs.Taken.{unsaid}
use Rattle.rules.proofs.judge_value.Goals as goal

pub returns-then-form-eq-PERIOD_FORM : goal.returns-then-form-eq-PERIOD_FORM
unfolding judge
returns-then-form-eq-PERIOD_FORM c = simp (eq-eqb _ _ c.if-form-eq-PERIOD_FORM.true) c.judge_period.ensures

pub returns-then-form-eq-INTERVAL_FORM : goal.returns-then-form-eq-INTERVAL_FORM
unfolding judge
returns-then-form-eq-INTERVAL_FORM c = simp (eq-eqb _ _ c.if-form-eq-INTERVAL_FORM.true, ne_eqb _ _ c.if-form-eq-PERIOD_FORM.false) c.judge_interval.ensures

pub returns-in_err-refused_unless : goal.returns-in_err-refused_unless
unfolding judge
returns-in_err-refused_unless c = rw (raised _ _ c.from_residual.ensures.1) (simp (← c.is_quarter_hour.ensures, eq-eqb _ _ c.if-form-eq-RESOLUTION_FORM.true, ne_eqb _ _ c.if-form-eq-INTERVAL_FORM.false, ne_eqb _ _ c.if-form-eq-PERIOD_FORM.false) (ap refused c.in_err-refused_unless.ensures))

pub returns-then-form-eq-RESOLUTION_FORM : goal.returns-then-form-eq-RESOLUTION_FORM
unfolding judge
returns-then-form-eq-RESOLUTION_FORM c = simp (← c.in_ok-refused_unless.ensures, ← c.is_quarter_hour.ensures, eq-eqb _ _ c.if-form-eq-RESOLUTION_FORM.true, ne_eqb _ _ c.if-form-eq-INTERVAL_FORM.false, ne_eqb _ _ c.if-form-eq-PERIOD_FORM.false)

pub returns-then-form-eq-POS_FORM : goal.returns-then-form-eq-POS_FORM
unfolding judge
returns-then-form-eq-POS_FORM c = simp (eq-eqb _ _ c.if-form-eq-POS_FORM.true, ne_eqb _ _ c.if-form-eq-RESOLUTION_FORM.false, ne_eqb _ _ c.if-form-eq-INTERVAL_FORM.false, ne_eqb _ _ c.if-form-eq-PERIOD_FORM.false) c.judge_position.ensures

pub returns-in_err-form_refusal : goal.returns-in_err-form_refusal
unfolding judge
returns-in_err-form_refusal c = rw (raised _ _ c.from_residual-in_err-form_refusal.ensures.1) (simp (unsaid _ _ _ c.in_err-form_refusal.ensures, ne_eqb _ _ c.if-form-eq-POS_FORM.false, ne_eqb _ _ c.if-form-eq-RESOLUTION_FORM.false, ne_eqb _ _ c.if-form-eq-INTERVAL_FORM.false, ne_eqb _ _ c.if-form-eq-PERIOD_FORM.false) (ap refused c.in_err-form_refusal.ensures))

pub returns : goal.returns
unfolding judge
returns c = simp (← c.code_no.ensures, ← c.in_ok-form_refusal.ensures, ne_eqb _ _ c.if-form-eq-POS_FORM.false, ne_eqb _ _ c.if-form-eq-RESOLUTION_FORM.false, ne_eqb _ _ c.if-form-eq-INTERVAL_FORM.false, ne_eqb _ _ c.if-form-eq-PERIOD_FORM.false)
