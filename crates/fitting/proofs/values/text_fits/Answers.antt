use Rattle.rules.proofs.Taken.{taken, told-settled}
use Rattle.fitting.specs.Told.{text_fits}
use Rattle.fitting.proofs.values.text_fits.Goals as goal

pub returns-then-is_id : goal.returns-then-is_id
unfolding text_fits
returns-then-is_id c = simp (← c.count_literal.ensures, c.if-is_id.true, ← c.is_id.ensures, ← c.form_of-form.ensures)

pub returns-then-has_ampersand : goal.returns-then-has_ampersand
unfolding text_fits
returns-then-has_ampersand c = simp (c.if-has_ampersand.true, ← c.has_ampersand.ensures, c.if-is_id.false, ← c.is_id.ensures, ← c.form_of-form.ensures)

pub returns : goal.returns
unfolding text_fits
returns c = simp (c.is_ok.ensures.value, taken _ _ (told-settled _ _ c.judge_value.ensures), ← c.said_of.ensures, ← c.quarter_hours.ensures, c.if-has_ampersand.false, ← c.has_ampersand.ensures, c.if-is_id.false, ← c.is_id.ensures, ← c.form_of-form.ensures)
