-- `escapes::put_escaped` meets its contract. The invariant is `Put`.
-- Assumes nothing.
use native.Mathlib.Omega.{arith}
use lib.ListN.{get_or}
use Rattle.escapes.proofs.Putting.{put-start, put_full, put-whole}
use Rattle.escapes.proofs.Escaping.{byte-most, escaped-more, escaped-over}
use Rattle.escapes.proofs.put_escaped.Goals as goal

pub loop-i-init : goal.loop-i-init
loop-i-init c = put-start _ _

pub shape_of-free-then-free-at : goal.shape_of-free-then-free-at
shape_of-free-then-free-at c = c.loop-i.invariant.same

pub returns-then-free-at : goal.returns-then-free-at
returns-then-free-at c = let it = put_full c.loop-i.invariant c.if-free-at.true in record { answer = it.0; buffer = it.1 }

pub overflow_add-at : goal.overflow_add-at
overflow_add-at c = omega (arith, c.if-free-at.false, c.put_escaped_byte-at.ensures.answer, byte-most (get_or c.args.v.now c.loop-i.i 0))

pub loop-i-preserved : goal.loop-i-preserved
loop-i-preserved c = escaped-more _ _ _ _ _ c.loop-i.invariant c.loop-i-test.true c.if-free-at.false _ _ c.put_escaped_byte-at.ensures.answer c.put_escaped_byte-at.ensures.buffer

pub shape_of-free-then-free-at-2 : goal.shape_of-free-then-free-at-2
shape_of-free-then-free-at-2 c = c.loop-i.invariant.same

pub returns-then-free-at-2 : goal.returns-then-free-at-2
returns-then-free-at-2 c = let it = put_full c.loop-i.invariant c.if-free-at-2.true in record { answer = it.0; buffer = it.1 }

pub shape_of-free : goal.shape_of-free
shape_of-free c = c.loop-i.invariant.same

pub returns : goal.returns
returns c = let it = put-whole c.loop-i.invariant (escaped-over _ _ c.loop-i-test.false) c.if-free-at-2.false in record { answer = it.0; buffer = it.1 }
