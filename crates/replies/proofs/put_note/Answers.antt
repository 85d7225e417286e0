-- `replies::put_note` meets its contract: it is the reader's.
-- Assumes nothing.
use borrow.Author.Rules.{rules}
use Rattle.replies.proofs.put_note.Goals as goal

pub returns : goal.returns
returns c = record { count = simp (← c.read-answer.ensures.answers); note = search rules }
