-- `notes::write_note` meets its contract: the numbers of either shape.
-- Assumes nothing.
use Rattle.notes.proofs.write_note.Goals as goal

pub returns-in-Old : goal.returns-in-Old
returns-in-Old c = record { answer = rw c.in-Old.is c.write_numbers.ensures.answer; buffer = rw c.in-Old.is c.write_numbers.ensures.buffer }

pub returns-in-New : goal.returns-in-New
returns-in-New c = record { answer = rw c.in-New.is c.write_numbers-in-New.ensures.answer; buffer = rw c.in-New.is c.write_numbers-in-New.ensures.buffer }
