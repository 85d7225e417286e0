use borrow.Author.Tests.{eq-eqb, ne_eqb}
use Rattle.states.specs.Moves.{at_row, one_series, one_interval, one_original, last_pos, covering, kept, entered}
use Rattle.states.proofs.State.entered.Goals as goal

pub returns-then-role-eq-SERIES_ROLE : goal.returns-then-role-eq-SERIES_ROLE
unfolding entered at_row kept covering last_pos one_original one_interval one_series
returns-then-role-eq-SERIES_ROLE c = simp (← c.one_more.ensures, eq-eqb _ _ c.if-role-eq-SERIES_ROLE.true, ← c.role_of-role.ensures, ← c.noticed-self.ensures)

pub returns-then-role-eq-PERIOD_ROLE : goal.returns-then-role-eq-PERIOD_ROLE
unfolding entered at_row kept covering last_pos one_original one_interval one_series
returns-then-role-eq-PERIOD_ROLE c = simp (eq-eqb _ _ c.if-role-eq-PERIOD_ROLE.true, ne_eqb _ _ c.if-role-eq-SERIES_ROLE.false, ← c.role_of-role.ensures, ← c.noticed-self.ensures)

pub returns-then-role-eq-INTERVAL_ROLE : goal.returns-then-role-eq-INTERVAL_ROLE
unfolding entered at_row kept covering last_pos one_original one_interval one_series
returns-then-role-eq-INTERVAL_ROLE c = simp (← c.one_more-then-role-eq-INTERVAL_ROLE.ensures, eq-eqb _ _ c.if-role-eq-INTERVAL_ROLE.true, ne_eqb _ _ c.if-role-eq-PERIOD_ROLE.false, ne_eqb _ _ c.if-role-eq-SERIES_ROLE.false, ← c.role_of-role.ensures, ← c.noticed-self.ensures)

pub returns-then-role-eq-ORIGINAL_ROLE : goal.returns-then-role-eq-ORIGINAL_ROLE
unfolding entered at_row kept covering last_pos one_original one_interval one_series
returns-then-role-eq-ORIGINAL_ROLE c = simp (← c.one_more-then-role-eq-ORIGINAL_ROLE.ensures, eq-eqb _ _ c.if-role-eq-ORIGINAL_ROLE.true, ne_eqb _ _ c.if-role-eq-INTERVAL_ROLE.false, ne_eqb _ _ c.if-role-eq-PERIOD_ROLE.false, ne_eqb _ _ c.if-role-eq-SERIES_ROLE.false, ← c.role_of-role.ensures, ← c.noticed-self.ensures)

pub returns-then-role-eq-POS_ROLE : goal.returns-then-role-eq-POS_ROLE
unfolding entered at_row kept covering last_pos one_original one_interval one_series
returns-then-role-eq-POS_ROLE c = simp (eq-eqb _ _ c.if-role-eq-POS_ROLE.true, ne_eqb _ _ c.if-role-eq-ORIGINAL_ROLE.false, ne_eqb _ _ c.if-role-eq-INTERVAL_ROLE.false, ne_eqb _ _ c.if-role-eq-PERIOD_ROLE.false, ne_eqb _ _ c.if-role-eq-SERIES_ROLE.false, ← c.role_of-role.ensures, ← c.noticed-self.ensures)

pub returns-then-form_of-eq-PERIOD_FORM : goal.returns-then-form_of-eq-PERIOD_FORM
unfolding entered at_row kept covering last_pos one_original one_interval one_series
returns-then-form_of-eq-PERIOD_FORM c = simp (← c.quarter_hours.ensures, eq-eqb _ _ c.if-form_of-eq-PERIOD_FORM.true, ← c.form_of.ensures, ne_eqb _ _ c.if-role-eq-POS_ROLE.false, ne_eqb _ _ c.if-role-eq-ORIGINAL_ROLE.false, ne_eqb _ _ c.if-role-eq-INTERVAL_ROLE.false, ne_eqb _ _ c.if-role-eq-PERIOD_ROLE.false, ne_eqb _ _ c.if-role-eq-SERIES_ROLE.false, ← c.role_of-role.ensures, ← c.noticed-self.ensures)

pub returns : goal.returns
unfolding entered at_row kept covering last_pos one_original one_interval one_series
returns c = simp (ne_eqb _ _ c.if-form_of-eq-PERIOD_FORM.false, ← c.form_of.ensures, ne_eqb _ _ c.if-role-eq-POS_ROLE.false, ne_eqb _ _ c.if-role-eq-ORIGINAL_ROLE.false, ne_eqb _ _ c.if-role-eq-INTERVAL_ROLE.false, ne_eqb _ _ c.if-role-eq-PERIOD_ROLE.false, ne_eqb _ _ c.if-role-eq-SERIES_ROLE.false, ← c.role_of-role.ensures, ← c.noticed-self.ensures)
