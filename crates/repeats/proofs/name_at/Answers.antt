use Rattle.repeats.specs.Order.{name_at}
use Rattle.repeats.proofs.name_at.Goals as goal

pub returns : goal.returns
unfolding name_at
returns c = simp (← c.front.ensures.list, ← c.name_len.ensures.run, ← c.rest-t.ensures.list)
