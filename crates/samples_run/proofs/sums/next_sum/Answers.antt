-- `samples_run::sums::next_sum` meets its contract.
-- Assumes nothing.
use mathlib.Core.Path.{refl}
use Rattle.samples_run.specs.Sums.{next}
use Rattle.samples_run.proofs.sums.next_sum.Goals as goal

pub returns : goal.returns
unfolding next
returns c = refl
