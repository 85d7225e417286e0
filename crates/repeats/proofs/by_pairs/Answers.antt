use Rattle.repeats.proofs.Paired.{paired-start, paired-over, paired-torn, paired-close, paired-empty, paired-found, paired-more}
use native.Mathlib.Omega.{arith}
use Rattle.repeats.proofs.by_pairs.Goals as goal

pub loop-i-init : goal.loop-i-init
loop-i-init c = paired-start _ _

pub overflow_add-after : goal.overflow_add-after
overflow_add-after c = omega (arith, rw c.in-Attribute.is at c.piece_at.ensures.size)

pub returns-then-count_bearers-gt0 : goal.returns-then-count_bearers-gt0
returns-then-count_bearers-gt0 c = let size = rw c.in-Attribute.is at c.piece_at.ensures.size in paired-found c.loop-i.invariant c.rest-t.ensures.list c.piece_at.ensures.piece c.loop-i-test.true c.in-Attribute.is size.0 c.part.ensures c.count_bearers.ensures c.if-count_bearers-gt0.true

pub loop-i-smaller : goal.loop-i-smaller
loop-i-smaller c = omega (arith, rw c.in-Attribute.is at c.piece_at.ensures.size)

pub loop-i-preserved : goal.loop-i-preserved
loop-i-preserved c = let size = rw c.in-Attribute.is at c.piece_at.ensures.size in paired-more c.loop-i.invariant c.rest-t.ensures.list c.piece_at.ensures.piece c.loop-i-test.true c.in-Attribute.is size.0 c.part.ensures c.count_bearers.ensures c.if-count_bearers-gt0.false

pub returns-in-Close : goal.returns-in-Close
returns-in-Close c = paired-close c.loop-i.invariant c.rest-t.ensures.list c.piece_at.ensures.piece c.loop-i-test.true c.in-Close.is

pub returns-in-CloseEmpty : goal.returns-in-CloseEmpty
returns-in-CloseEmpty c = paired-empty c.loop-i.invariant c.rest-t.ensures.list c.piece_at.ensures.piece c.loop-i-test.true c.in-CloseEmpty.is

pub returns-in-Torn : goal.returns-in-Torn
returns-in-Torn c = paired-torn c.loop-i.invariant c.rest-t.ensures.list c.piece_at.ensures.piece c.in-Torn.is

pub returns : goal.returns
returns c = paired-over c.loop-i.invariant c.loop-i-test.false
