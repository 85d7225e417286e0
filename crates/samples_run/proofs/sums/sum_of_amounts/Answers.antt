-- `samples_run::sums::sum_of_amounts` meets its contract. The invariant is `Summed` of the amounts' residues.
-- Assumes nothing.
use borrow.Author.Rules.{rules}
use mir.Syntax.{w64}
use mir.Val.{SFits}
use mir.Facts.{to_z-of_z}
use lib.IntN.{pos}
use lib.ListN.{get_or}
use Rattle.samples_run.proofs.Folds.{sum-start, sum-amount, sum-amounts}
use Rattle.samples_run.proofs.sums.sum_of_amounts.Goals as goal

pub loop-i-init : goal.loop-i-init
loop-i-init c = sum-start _

pub loop-i-preserved : goal.loop-i-preserved
loop-i-preserved c = let f : SFits w64 (get_or c.args.t.now c.loop-i.i (pos 0)) = search rules in
    let e = rw (to_z-of_z f) at c.residue.ensures in
    sum-amount c.args.t.now _ _ c.loop-i.invariant c.loop-i-test.true _ _ e c.next_sum-h.ensures

pub returns : goal.returns
returns c = sum-amounts c.args.t.now _ _ c.loop-i.invariant c.loop-i-test.false
