-- `notes::read_note` meets its contract: five numbers, seven, and neither.
-- Assumes nothing.
use mathlib.Core.Path.{sym, ◌∙◌}
use Rattle.notes.proofs.Reading.{read-five, read-seven, read-neither}
use Rattle.notes.proofs.read_note.Goals as goal

pub returns-in-Some : goal.returns-in-Some
returns-in-Some c = c.old_note.ensures ∙ read-five _ _ (sym c.read_numbers.ensures ∙ c.in-Some.is)

pub returns-in_err-seven : goal.returns-in_err-seven
returns-in_err-seven c = c.from_residual.ensures ∙ read-neither _ (sym c.read_numbers.ensures ∙ c.in_default.is) (sym c.read_numbers-2.ensures ∙ c.in_err-seven.was)

pub returns : goal.returns
returns c = c.new_note.ensures ∙ read-seven _ _ (sym c.read_numbers.ensures ∙ c.in_default.is) (sym c.read_numbers-2.ensures ∙ c.in_ok-seven.was)
