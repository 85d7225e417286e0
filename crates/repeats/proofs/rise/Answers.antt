use native.Mathlib.Omega.{arith}
use Rattle.repeats.proofs.Table.{held_start, held-swap}
use Rattle.repeats.proofs.rise.Goals as goal

pub loop-i-init : goal.loop-i-init
loop-i-init c = (held_start _ _, omega arith)

pub loop-i-preserved : goal.loop-i-preserved
loop-i-preserved c = (held-swap c.loop-i.invariant.0 c.swap.ensures c.swap.auto.h (omega arith) (omega arith), omega arith)

pub shape_of-h-else-is_before : goal.shape_of-h-else-is_before
shape_of-h-else-is_before c = c.loop-i.invariant.0.same

pub returns-else-is_before : goal.returns-else-is_before
returns-else-is_before c = c.loop-i.invariant.0.kept

pub shape_of-h : goal.shape_of-h
shape_of-h c = c.loop-i.invariant.0.same

pub returns : goal.returns
returns c = c.loop-i.invariant.0.kept
