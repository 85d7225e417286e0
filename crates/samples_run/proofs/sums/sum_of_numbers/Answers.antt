-- `samples_run::sums::sum_of_numbers` meets its contract. The invariant is `Summed`.
-- Assumes nothing.
use Rattle.samples_run.proofs.Folds.{sum-start, sum-next, sum-end}
use Rattle.samples_run.proofs.sums.sum_of_numbers.Goals as goal

pub loop-i-init : goal.loop-i-init
loop-i-init c = sum-start _

pub loop-i-preserved : goal.loop-i-preserved
loop-i-preserved c = sum-next _ _ _ c.loop-i.invariant c.loop-i-test.true _ c.next_sum-h.ensures

pub returns : goal.returns
returns c = sum-end _ _ _ c.loop-i.invariant c.loop-i-test.false
