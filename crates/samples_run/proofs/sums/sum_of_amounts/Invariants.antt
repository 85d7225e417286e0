use mathlib.Core.List.{map}
use Rattle.samples_run.specs.Sums.{residue_of}
use Rattle.samples_run.proofs.Folds.{Summed}
use Rattle.samples_run.proofs.sums.sum_of_amounts.Given as goal

abbrev pub invariant-loop-i : goal.invariant-loop-i
invariant-loop-i l = Summed (map residue_of l.t) l.h l.i
