use mathlib.Core.Path.{ap, ◌∙◌}
use Rattle.notes.specs.Converter.{convert_refusal}
use Rattle.library.proofs.Lengths.{converted-short}
use Rattle.library.proofs.lumintayag_convert_note.Goals as goal

pub put_converted-requires : goal.put_converted-requires
put_converted-requires c = rw c.convert_note-c.ensures.answer (converted-short _ _ _)

pub returns : goal.returns
returns c = let said = rw c.shape_of.ensures at c.convert_note-c.ensures.answer in
    let left = rw c.shape_of.ensures at c.convert_note-c.ensures.buffer in
    record {
      refuses = c.put_converted.ensures.answer ∙ ap convert_refusal said;
      leaves = left;
      puts = rw (← said) c.put_converted.ensures.pair;
    }
