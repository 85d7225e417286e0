use Rattle.repeats.proofs.Bearing.{told-twice}
use Rattle.repeats.proofs.decided.Goals as goal

pub returns-then-count_bearers-ge2 : goal.returns-then-count_bearers-ge2
returns-then-count_bearers-ge2 c = told-twice _ _ _ c.count_bearers.ensures c.if-count_bearers-ge2.true
