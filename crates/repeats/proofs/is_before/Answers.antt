use Rattle.repeats.specs.Order.{less}
use Rattle.repeats.proofs.is_before.Goals as goal

pub returns : goal.returns
unfolding less
returns c = simp (← c.is_less.ensures, ← c.name_at-2.ensures, ← c.name_at.ensures)
