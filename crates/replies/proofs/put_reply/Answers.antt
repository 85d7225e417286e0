-- `replies::put_reply` meets its contract: an input that is too long, and any other.
-- Assumes nothing.
use Rattle.lines.specs.Text.{hex_text}
use Rattle.series.specs.Row.{cells_of}
use Rattle.notes.specs.declared.Shape.TheVariants.{Old}
use Rattle.reader.specs.Answer.{read_of}
use Rattle.replies.specs.Reply.{line_for}
use Rattle.replies.proofs.Replies.{put-line, note-part, reply-long, reply-note}
use Rattle.replies.proofs.put_reply.Goals as goal

pub returns-then-input-gt65536 : goal.returns-then-input-gt65536
unfolding line_for
returns-then-input-gt65536 c = rw (reply-long c.args.input.now c.if-input-gt65536.true)
    (record { counted = c.put_text.ensures.count; text = c.put_text.ensures.text; room = c.put_text.ensures.room })

pub returns : goal.returns
returns c = let e = note-part (read_of c.args.input.now (cells_of 64) 2048 2048 Old 16) _ _ _ c.put_note-n.ensures.count c.put_note-n.ensures.note c.front.ensures.list in
    rw (reply-note c.args.input.now c.if-input-gt65536.false, ← e) (put-line (hex_text c.front.result.now) c.args.out.now _ _ _ _ c.put_hex-at.ensures.count c.put_hex-at.ensures.text c.put_byte.ensures.next c.put_byte.ensures.byte)
