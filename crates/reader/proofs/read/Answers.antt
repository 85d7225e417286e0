use mathlib.Core.Path.{refl}
use Rattle.states.specs.Moves.{begun}
use lib.ListN.{length}
use Rattle.reader.specs.Reading.{refused_at}
use Rattle.reader.specs.Answer.{answer_of}
use Rattle.reader.proofs.Sheets.{read-ten, read_told, permitted}
use Rattle.reader.proofs.read.Goals as goal

pub returns-then-note-lt16 : goal.returns-then-note-lt16
unfolding answer_of refused_at begun
returns-then-note-lt16 c = permitted (read-ten c.args.doc.now (length c.args.series.now) (length c.args.positions.now) (length c.args.amounts.now) c.args.shape (length c.args.note.now) c.if-note-lt16.true (rw c.number.ensures) c.clear_tables.ensures c.clear_bytes.ensures)

pub returns : goal.returns
returns c = permitted (read_told c.args.doc.now (length c.args.series.now) (length c.args.positions.now) (length c.args.amounts.now) c.args.shape (length c.args.note.now) c.if-note-lt16.false c.read_sheet-found.ensures c.tell.ensures.answer c.tell.ensures.note)
