use Rattle.slices.specs.Same.{same}
use Rattle.elements.specs.Names.{names, number_in, element_no}
use borrow.Author.Tests.{eq-eqb, ne_eqb}
use Rattle.guideline.specs.Kinds.{kind_one, kind_two, kind_three, kind_of}
use Rattle.guideline.proofs.kind_of_root.Goals as goal

pub returns-then-name-eq-BESCHAFFUNGSANFORDERUNG : goal.returns-then-name-eq-BESCHAFFUNGSANFORDERUNG
unfolding kind_of kind_one kind_two kind_three element_no number_in names same
returns-then-name-eq-BESCHAFFUNGSANFORDERUNG c = simp (eq-eqb _ _ c.if-name-eq-BESCHAFFUNGSANFORDERUNG.true)

pub returns-then-name-eq-KOSTENBLATT : goal.returns-then-name-eq-KOSTENBLATT
unfolding kind_of kind_one kind_two kind_three element_no number_in names same
returns-then-name-eq-KOSTENBLATT c = simp (eq-eqb _ _ c.if-name-eq-KOSTENBLATT.true, ne_eqb _ _ c.if-name-eq-BESCHAFFUNGSANFORDERUNG.false)

pub returns-then-name-eq-NETWORK_CONSTRAINT_DOCUMENT : goal.returns-then-name-eq-NETWORK_CONSTRAINT_DOCUMENT
unfolding kind_of kind_one kind_two kind_three element_no number_in names same
returns-then-name-eq-NETWORK_CONSTRAINT_DOCUMENT c = simp (eq-eqb _ _ c.if-name-eq-NETWORK_CONSTRAINT_DOCUMENT.true, ne_eqb _ _ c.if-name-eq-KOSTENBLATT.false, ne_eqb _ _ c.if-name-eq-BESCHAFFUNGSANFORDERUNG.false)

pub returns : goal.returns
unfolding kind_of kind_one kind_two kind_three element_no number_in names same
returns c = simp (ne_eqb _ _ c.if-name-eq-NETWORK_CONSTRAINT_DOCUMENT.false, ne_eqb _ _ c.if-name-eq-KOSTENBLATT.false, ne_eqb _ _ c.if-name-eq-BESCHAFFUNGSANFORDERUNG.false)
