use mathlib.Core.Path.{ap}
use Rattle.reader.specs.declared.Answer.{Answer}
use Rattle.library.proofs.Lengths.{note-short}
use Rattle.library.proofs.lumintayag_read_v3.Goals as goal

pub put_answer-requires : goal.put_answer-requires
put_answer-requires c = rw c.read-a.ensures.answers (note-short _ _ _ _ _ _)

pub returns : goal.returns
returns c = let q = rw c.shape_of.ensures at c.read-a.ensures in
    record {
      refuses = ap (λ (a : Answer). a.refusal) q.answers;
      leaves = rw q.answers at q;
      puts = rw (← q.answers) c.put_answer.ensures;
    }
