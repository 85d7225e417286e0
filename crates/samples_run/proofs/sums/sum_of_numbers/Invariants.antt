use Rattle.samples_run.proofs.Folds.{Summed}
use Rattle.samples_run.proofs.sums.sum_of_numbers.Given as goal

abbrev pub invariant-loop-i : goal.invariant-loop-i
invariant-loop-i l = Summed l.t l.h l.i
