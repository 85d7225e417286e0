-- `samples_run::sums::residue` meets its contract.
-- Assumes nothing.
use mathlib.Core.Path.{sym, ap}
use borrow.Author.Rules.{sfits_of}
use native.Mathlib.Omega.{arith}
use mir.Facts.{to_z-of_z}
use Rattle.lists.proofs.Signs.{from_zero, below-zero, back}
use Rattle.samples_run.specs.Sums.{residue_of}
use Rattle.samples_run.proofs.Residues.{residue-from}
use Rattle.samples_run.proofs.sums.residue.Goals as goal

pub overflow_cast-result : goal.overflow_cast-result
overflow_cast-result c = let f = c.ranges.a in rw (to_z-of_z f) (from_zero _ f (rw (to_z-of_z f) at c.if-a-ge0.true))

pub returns-then-a-ge0 : goal.returns-then-a-ge0
returns-then-a-ge0 c = let f = c.ranges.a in rw (to_z-of_z f) (residue-from _ (rw (to_z-of_z f) at c.if-a-ge0.true))

pub overflow_sub-size : goal.overflow_sub-size
overflow_sub-size c = let f = c.ranges.a in let k = below-zero _ f (rw (to_z-of_z f) at c.if-a-ge0.false) in rw (to_z-of_z f, k.1) (sfits_of k.2)

pub overflow_cast-result-2 : goal.overflow_cast-result-2
overflow_cast-result-2 c = let f = c.ranges.a in
    let k = below-zero _ f (rw (to_z-of_z f) at c.if-a-ge0.false) in
    let h = k.2 in
    rw (to_z-of_z f, k.1, back k.0 h) (tt, record { fits = omega arith })

pub returns : goal.returns
unfolding residue_of
returns c = let f = c.ranges.a in
    let k = below-zero _ f (rw (to_z-of_z f) at c.if-a-ge0.false) in
    rw (to_z-of_z f, k.1, back k.0 k.2) (sym (ap residue_of k.3))
