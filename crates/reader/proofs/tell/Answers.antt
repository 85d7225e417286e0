use Rattle.reader.specs.Answer.{note_for, answer_of, told}
use Rattle.reader.proofs.tell.Goals as goal

pub returns : goal.returns
unfolding told note_for answer_of
returns c = record { answer = simp (← c.write_note-len.ensures.answer); note = c.write_note-len.ensures.buffer }
