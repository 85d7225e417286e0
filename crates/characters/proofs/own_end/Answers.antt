use Rattle.characters.specs.Says.{own_end}
use Rattle.characters.proofs.own_end.Goals as goal

pub returns : goal.returns
unfolding own_end
returns c = simp (← c.last_byte.ensures, ← c.own_byte.ensures)
