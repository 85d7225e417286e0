-- `escapes::put_unescaped` meets its contract. The invariant is `Put`.
-- Assumes nothing.
use native.Mathlib.Omega.{arith}
use Rattle.escapes.proofs.Putting.{put-start, put-most}
use Rattle.escapes.proofs.Unescaping.{unescaped-most, unescaped-below, unescaped-more, unescaped-over, unescaped-end}
use Rattle.escapes.proofs.put_unescaped.Goals as goal

pub loop-i-init : goal.loop-i-init
loop-i-init c = put-start _ _

pub slice_bounds-put_utf8-count : goal.slice_bounds-put_utf8-count
slice_bounds-put_utf8-count c = omega (arith, c.free_from-from.ensures)

pub slice_bounds-put_utf8-start : goal.slice_bounds-put_utf8-start
slice_bounds-put_utf8-start c = omega (arith, c.free_from-from.ensures)

pub put_utf8-at-requires : goal.put_utf8-at-requires
put_utf8-at-requires c = unescaped-below _ _ _ _ _ c.loop-i.invariant c.loop-i-test.true c.said_at.ensures.said c.in-Some.is

pub overflow_add-at : goal.overflow_add-at
overflow_add-at c = let few = rw c.in-Some.is at c.said_at.ensures.size in
    let w =
    unescaped-more _ _ _ _ _ c.loop-i.invariant c.loop-i-test.true c.said_at.ensures.said c.in-Some.is few.0 _ _ _
    c.free_from-from.ensures c.put_utf8-at.ensures.answer c.put_utf8-at.ensures.buffer in
    omega (arith, put-most w, unescaped-most c.args.v.now, c.loop-i-test.true)

pub overflow_add-i : goal.overflow_add-i
overflow_add-i c = let few = rw c.in-Some.is at c.said_at.ensures.size in
    omega (arith, few)

pub loop-i-smaller : goal.loop-i-smaller
loop-i-smaller c = let few = rw c.in-Some.is at c.said_at.ensures.size in
    omega (arith, few, c.loop-i-test.true)

pub loop-i-preserved : goal.loop-i-preserved
loop-i-preserved c = let few = rw c.in-Some.is at c.said_at.ensures.size in
    unescaped-more _ _ _ _ _ c.loop-i.invariant c.loop-i-test.true c.said_at.ensures.said c.in-Some.is few.0 _ _ _
    c.free_from-from.ensures c.put_utf8-at.ensures.answer c.put_utf8-at.ensures.buffer

pub shape_of-free-in_default : goal.shape_of-free-in_default
shape_of-free-in_default c = c.loop-i.invariant.same

pub returns-in_default : goal.returns-in_default
returns-in_default c = let r = unescaped-over _ _ _ _ _ c.loop-i.invariant c.said_at.ensures.said c.in_default.is in
    record { answer = r.0; buffer = r.1; size = rw r.0 (unescaped-most _) }

pub shape_of-free : goal.shape_of-free
shape_of-free c = c.loop-i.invariant.same

pub returns : goal.returns
returns c = let r = unescaped-end _ _ _ _ _ c.loop-i.invariant c.loop-i-test.false in
    record { answer = r.0; buffer = r.1; size = rw r.0 (unescaped-most _) }
