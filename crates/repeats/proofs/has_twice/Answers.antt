use Rattle.repeats.proofs.Bearing.{twice-few}
use Rattle.repeats.proofs.has_twice.Goals as goal

pub returns-then-n-lt2 : goal.returns-then-n-lt2
returns-then-n-lt2 c = twice-few _ _ c.count_attributes-n.ensures c.if-n-lt2.true
