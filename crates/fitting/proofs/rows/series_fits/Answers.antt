use borrow.Author.Tests.{eq-eqb, ne_eqb}
use mathlib.Core.Logic.{⊎_elim}
use Rattle.fitting.proofs.Loops.{rows-missing, count-unfit, single-unfit, originals-unfit, with-originals, without-originals}
use Rattle.fitting.proofs.rows.series_fits.Goals as goal

pub returns-then-not-are_rows_lent : goal.returns-then-not-are_rows_lent
returns-then-not-are_rows_lent c = rows-missing _ _ _ _ _ _ _ _ _ _ _ _ c.are_rows_lent.ensures c.if-not-are_rows_lent.true

pub returns-then-not-count_fits : goal.returns-then-not-count_fits
returns-then-not-count_fits c = count-unfit _ _ _ _ _ _ _ _ _ _ _ _ c.are_rows_lent.ensures c.if-not-are_rows_lent.false c.quarter_hours-quarters.ensures c.count_fits.ensures c.if-not-count_fits.true

pub returns-then-not-singles_fit : goal.returns-then-not-singles_fit
returns-then-not-singles_fit c = single-unfit _ _ _ _ _ _ _ _ _ _ _ _ c.are_rows_lent.ensures c.if-not-are_rows_lent.false c.quarter_hours-quarters.ensures c.count_fits.ensures c.if-not-count_fits.false c.singles_fit.ensures c.if-not-singles_fit.true

pub returns-then-originals-ne5 : goal.returns-then-originals-ne5
returns-then-originals-ne5 c = originals-unfit _ _ _ _ _ _ _ _ _ _ _ _ c.are_rows_lent.ensures c.if-not-are_rows_lent.false c.quarter_hours-quarters.ensures c.count_fits.ensures c.if-not-count_fits.false c.singles_fit.ensures c.if-not-singles_fit.false c.originals_in-originals.ensures c.if-originals-ne0.true (ne_eqb _ _ c.if-originals-ne5.true)

pub returns : goal.returns
returns c = ⊎_elim
    (λ w. with-originals _ _ _ _ _ _ _ _ _ _ _ _ c.are_rows_lent.ensures c.if-not-are_rows_lent.false c.quarter_hours-quarters.ensures c.count_fits.ensures c.if-not-count_fits.false c.singles_fit.ensures c.if-not-singles_fit.false c.originals_in-originals.ensures c.rows_fit.ensures w.0 (eq-eqb _ _ w.1))
    (λ w. without-originals _ _ _ _ _ _ _ _ _ _ _ _ c.are_rows_lent.ensures c.if-not-are_rows_lent.false c.quarter_hours-quarters.ensures c.count_fits.ensures c.if-not-count_fits.false c.singles_fit.ensures c.if-not-singles_fit.false c.originals_in-originals.ensures c.rows_fit.ensures w)
    c.else-originals-ne0.either
