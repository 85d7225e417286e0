use Rattle.trims.proofs.Trimming.{trimmed-says}
use native.Mathlib.Omega.{arith}
use mir.Facts.{to_z-of_z}
use mir.Syntax.{w64}
use borrow.Author.Rules.{sfits_of}
use Rattle.reader.specs.Rows.{series_with, positions_with, amounts_with, series_after, positions_after, amounts_after}
use Rattle.reader.specs.Reading.{tables_after}
use Rattle.reader.proofs.Spans.{span-in}
use Rattle.reader.proofs.rows.enter.Goals as goal

pub enter_field-requires : goal.enter_field-requires
enter_field-requires c = omega (arith, rw (← c.span_of-v.ensures) at (span-in c.args.item))

pub returns-in-NoCell : goal.returns-in-NoCell
unfolding tables_after series_after series_with positions_after positions_with amounts_after amounts_with
returns-in-NoCell c = simp (← c.brought_by.ensures, c.in-NoCell.is)

pub returns-in-InRow : goal.returns-in-InRow
unfolding tables_after series_after series_with positions_after positions_with amounts_after amounts_with
returns-in-InRow c = simp (← c.enter_field.ensures, ← c.span_of-v.ensures, ← c.brought_by.ensures, c.in-InRow.is)

pub returns-in-AtPosition : goal.returns-in-AtPosition
unfolding tables_after series_after series_with positions_after positions_with amounts_after amounts_with
returns-in-AtPosition c = simp (← c.set_number.ensures, ← c.last_of-row.ensures, ← c.brought_by.ensures, c.in-AtPosition.is)

pub returns-in-AtAmount : goal.returns-in-AtAmount
unfolding tables_after series_after series_with positions_after positions_with amounts_after amounts_with
returns-in-AtAmount c = let e = rw (to_z-of_z {w = w64} {z = c.thousandths_of.result} (sfits_of c.thousandths_of.type_inv)) at c.set_amount.ensures in simp (e, ← c.thousandths_of.ensures, ← trimmed-says, ← c.trimmed.ensures, ← c.quoted_of.ensures, ← c.last_of-row.ensures, ← c.span_of-v.ensures, ← c.brought_by.ensures, c.in-AtAmount.is)
