use borrow.Author.Tests.{eq-eqb, ne_eqb}
use mathlib.Core.Path.{sym, ◌∙◌}
use mathlib.Core.Logic.{⊎_elim}
use Rattle.views.proofs.Sheets.{own-rows, own-few}
use Rattle.fitting.proofs.Whole.{first-written, second-written, not_written, not-lent, no-texts, as-sheet}
use Rattle.fitting.proofs.is_fit.Goals as goal

pub returns-then-kind-ne2 : goal.returns-then-kind-ne2
returns-then-kind-ne2 c = not_written _ _ _ _ _ _ _ (sym (second-written _ c.if-kind-ne1.true) ∙ ne_eqb _ _ c.if-kind-ne2.true)

pub returns-then-not-is_count_lent : goal.returns-then-not-is_count_lent
returns-then-not-is_count_lent c = not-lent _ _ _ _ _ _ _ (⊎_elim (λ w. sym (second-written _ w.0) ∙ eq-eqb _ _ w.1) (λ w. first-written _ w) c.else-kind-ne1.either) c.is_count_lent.ensures c.if-not-is_count_lent.true

pub returns-then-not-are_texts : goal.returns-then-not-are_texts
returns-then-not-are_texts c = no-texts _ _ _ _ _ _ _ (⊎_elim (λ w. sym (second-written _ w.0) ∙ eq-eqb _ _ w.1) (λ w. first-written _ w) c.else-kind-ne1.either) c.is_count_lent.ensures c.if-not-is_count_lent.false c.are_texts.ensures c.if-not-are_texts.true

pub sheet_fits-requires : goal.sheet_fits-requires
sheet_fits-requires c = own-few _ c.every_row-rows.ensures.rows c.rows_of.ensures

pub returns : goal.returns
returns c = as-sheet _ _ _ _ _ _ _ (⊎_elim (λ w. sym (second-written _ w.0) ∙ eq-eqb _ _ w.1) (λ w. first-written _ w) c.else-kind-ne1.either) c.is_count_lent.ensures c.if-not-is_count_lent.false c.are_texts.ensures c.if-not-are_texts.false (own-rows _ c.every_row-rows.ensures.rows c.rows_of.ensures) c.sheet_fits.ensures
