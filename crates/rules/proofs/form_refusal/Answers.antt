use borrow.Author.Tests.{eq-eqb, le-leb, lt-leb, ne_eqb}
use Rattle.rules.specs.Rules.{form_refusal}
use Rattle.rules.proofs.form_refusal.Goals as goal

pub returns-then-form-eq-IDENTIFICATION_FORM : goal.returns-then-form-eq-IDENTIFICATION_FORM
unfolding form_refusal
returns-then-form-eq-IDENTIFICATION_FORM c = simp (← c.refused_unless.ensures, ← c.is_identification.ensures, eq-eqb _ _ c.if-form-eq-IDENTIFICATION_FORM.true)

pub returns-then-form-eq-SERIES_ID_FORM : goal.returns-then-form-eq-SERIES_ID_FORM
unfolding form_refusal
returns-then-form-eq-SERIES_ID_FORM c = simp (← c.refused_unless-then-form-eq-SERIES_ID_FORM.ensures, ← c.is_identification-then-form-eq-SERIES_ID_FORM.ensures, eq-eqb _ _ c.if-form-eq-SERIES_ID_FORM.true, ne_eqb _ _ c.if-form-eq-IDENTIFICATION_FORM.false)

pub returns-then-form-eq-PARTNER_FORM : goal.returns-then-form-eq-PARTNER_FORM
unfolding form_refusal
returns-then-form-eq-PARTNER_FORM c = simp (← c.refused_unless-then-form-eq-PARTNER_FORM.ensures, ← c.is_market_partner.ensures, eq-eqb _ _ c.if-form-eq-PARTNER_FORM.true, ne_eqb _ _ c.if-form-eq-SERIES_ID_FORM.false, ne_eqb _ _ c.if-form-eq-IDENTIFICATION_FORM.false)

pub returns-then-form-eq-VERSION_FORM : goal.returns-then-form-eq-VERSION_FORM
unfolding form_refusal
returns-then-form-eq-VERSION_FORM c = simp (← c.refused_unless-then-form-eq-VERSION_FORM.ensures, ← c.is_version.ensures, eq-eqb _ _ c.if-form-eq-VERSION_FORM.true, ne_eqb _ _ c.if-form-eq-PARTNER_FORM.false, ne_eqb _ _ c.if-form-eq-SERIES_ID_FORM.false, ne_eqb _ _ c.if-form-eq-IDENTIFICATION_FORM.false)

pub returns-then-form-eq-DATE_TIME_FORM : goal.returns-then-form-eq-DATE_TIME_FORM
unfolding form_refusal
returns-then-form-eq-DATE_TIME_FORM c = simp (← c.refused_unless-then-form-eq-DATE_TIME_FORM.ensures, ← c.is_date_time.ensures, eq-eqb _ _ c.if-form-eq-DATE_TIME_FORM.true, ne_eqb _ _ c.if-form-eq-VERSION_FORM.false, ne_eqb _ _ c.if-form-eq-PARTNER_FORM.false, ne_eqb _ _ c.if-form-eq-SERIES_ID_FORM.false, ne_eqb _ _ c.if-form-eq-IDENTIFICATION_FORM.false)

pub returns-then-form-eq-AMOUNT_FORM : goal.returns-then-form-eq-AMOUNT_FORM
unfolding form_refusal
returns-then-form-eq-AMOUNT_FORM c = simp (← c.refused_unless-then-form-eq-AMOUNT_FORM.ensures, ← c.is_amount.ensures, eq-eqb _ _ c.if-form-eq-AMOUNT_FORM.true, ne_eqb _ _ c.if-form-eq-DATE_TIME_FORM.false, ne_eqb _ _ c.if-form-eq-VERSION_FORM.false, ne_eqb _ _ c.if-form-eq-PARTNER_FORM.false, ne_eqb _ _ c.if-form-eq-SERIES_ID_FORM.false, ne_eqb _ _ c.if-form-eq-IDENTIFICATION_FORM.false)

pub returns-then-form-eq-OBJECT_FORM : goal.returns-then-form-eq-OBJECT_FORM
unfolding form_refusal
returns-then-form-eq-OBJECT_FORM c = simp (← c.refused_unless-then-form-eq-OBJECT_FORM.ensures, ← c.is_resource_object.ensures, eq-eqb _ _ c.if-form-eq-OBJECT_FORM.true, ne_eqb _ _ c.if-form-eq-AMOUNT_FORM.false, ne_eqb _ _ c.if-form-eq-DATE_TIME_FORM.false, ne_eqb _ _ c.if-form-eq-VERSION_FORM.false, ne_eqb _ _ c.if-form-eq-PARTNER_FORM.false, ne_eqb _ _ c.if-form-eq-SERIES_ID_FORM.false, ne_eqb _ _ c.if-form-eq-IDENTIFICATION_FORM.false)

pub returns-then-form-eq-PARTY_FORM : goal.returns-then-form-eq-PARTY_FORM
unfolding form_refusal
returns-then-form-eq-PARTY_FORM c = simp (← c.refused_unless-then-form-eq-PARTY_FORM.ensures, ← c.is_party.ensures, eq-eqb _ _ c.if-form-eq-PARTY_FORM.true, ne_eqb _ _ c.if-form-eq-OBJECT_FORM.false, ne_eqb _ _ c.if-form-eq-AMOUNT_FORM.false, ne_eqb _ _ c.if-form-eq-DATE_TIME_FORM.false, ne_eqb _ _ c.if-form-eq-VERSION_FORM.false, ne_eqb _ _ c.if-form-eq-PARTNER_FORM.false, ne_eqb _ _ c.if-form-eq-SERIES_ID_FORM.false, ne_eqb _ _ c.if-form-eq-IDENTIFICATION_FORM.false)

pub returns-then-form-eq-GRID_ELEMENT_FORM : goal.returns-then-form-eq-GRID_ELEMENT_FORM
unfolding form_refusal
returns-then-form-eq-GRID_ELEMENT_FORM c = simp (← c.refused_unless-then-form-eq-GRID_ELEMENT_FORM.ensures, ← c.is_grid_element.ensures, eq-eqb _ _ c.if-form-eq-GRID_ELEMENT_FORM.true, ne_eqb _ _ c.if-form-eq-PARTY_FORM.false, ne_eqb _ _ c.if-form-eq-OBJECT_FORM.false, ne_eqb _ _ c.if-form-eq-AMOUNT_FORM.false, ne_eqb _ _ c.if-form-eq-DATE_TIME_FORM.false, ne_eqb _ _ c.if-form-eq-VERSION_FORM.false, ne_eqb _ _ c.if-form-eq-PARTNER_FORM.false, ne_eqb _ _ c.if-form-eq-SERIES_ID_FORM.false, ne_eqb _ _ c.if-form-eq-IDENTIFICATION_FORM.false)

pub returns-then-form-ge-IN_LIST : goal.returns-then-form-ge-IN_LIST
unfolding form_refusal
returns-then-form-ge-IN_LIST c = simp (← c.refused_unless-then-form-ge-IN_LIST.ensures, ← c.is_listed.ensures, le-leb _ _ c.if-form-ge-IN_LIST.true, ne_eqb _ _ c.if-form-eq-GRID_ELEMENT_FORM.false, ne_eqb _ _ c.if-form-eq-PARTY_FORM.false, ne_eqb _ _ c.if-form-eq-OBJECT_FORM.false, ne_eqb _ _ c.if-form-eq-AMOUNT_FORM.false, ne_eqb _ _ c.if-form-eq-DATE_TIME_FORM.false, ne_eqb _ _ c.if-form-eq-VERSION_FORM.false, ne_eqb _ _ c.if-form-eq-PARTNER_FORM.false, ne_eqb _ _ c.if-form-eq-SERIES_ID_FORM.false, ne_eqb _ _ c.if-form-eq-IDENTIFICATION_FORM.false)

pub returns : goal.returns
unfolding form_refusal
returns c = simp (lt-leb _ _ c.if-form-ge-IN_LIST.false, ne_eqb _ _ c.if-form-eq-GRID_ELEMENT_FORM.false, ne_eqb _ _ c.if-form-eq-PARTY_FORM.false, ne_eqb _ _ c.if-form-eq-OBJECT_FORM.false, ne_eqb _ _ c.if-form-eq-AMOUNT_FORM.false, ne_eqb _ _ c.if-form-eq-DATE_TIME_FORM.false, ne_eqb _ _ c.if-form-eq-VERSION_FORM.false, ne_eqb _ _ c.if-form-eq-PARTNER_FORM.false, ne_eqb _ _ c.if-form-eq-SERIES_ID_FORM.false, ne_eqb _ _ c.if-form-eq-IDENTIFICATION_FORM.false)
