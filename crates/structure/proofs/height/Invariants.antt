use Rattle.structure.proofs.Depths.{Climbed}
use Rattle.structure.proofs.height.Given as goal

abbrev pub invariant-loop-n : goal.invariant-loop-n
invariant-loop-n l = Climbed l.t l.row l.n l.r
