use Rattle.library.specs.Cells.{seven_of}
use Rattle.library.proofs.put_answer.Goals as goal

pub returns : goal.returns
unfolding seven_of
returns c = c.put_numbers.ensures
