use Rattle.tags.specs.Known.{none_known, absent}
use Rattle.tags.proofs.Known.none.Goals as goal

pub returns : goal.returns
unfolding none_known absent
returns c = simp (← c.none-dtd.ensures)
