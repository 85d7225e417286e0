use Rattle.states.specs.Attributes.{demands_at}
use Rattle.states.proofs.demands_at.Goals as goal

pub returns-then-is_root : goal.returns-then-is_root
unfolding demands_at
returns-then-is_root c = simp (← c.kind_at-k.ensures, c.if-is_root.true, ← c.is_root.ensures)

pub returns : goal.returns
unfolding demands_at
returns c = simp (← c.none.ensures, c.if-is_root.false, ← c.is_root.ensures)
