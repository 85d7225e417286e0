use Rattle.repeats.proofs.Table.{swapped}
use Rattle.repeats.proofs.swap.Goals as goal

pub returns : goal.returns
returns c = swapped _ _ c.args.h.now c.requires.0 c.requires.1
