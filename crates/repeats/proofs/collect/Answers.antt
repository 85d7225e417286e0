use Rattle.repeats.proofs.Collected.{collected-start, collected-more, place_inside}
use native.Mathlib.Omega.{arith}
use Rattle.repeats.proofs.collect.Goals as goal

pub loop-i-init : goal.loop-i-init
loop-i-init c = collected-start _ _ _

pub overflow_add-i : goal.overflow_add-i
overflow_add-i c = omega (arith, place_inside _ _ c.rest.ensures.list c.piece_at.ensures.piece c.in-Attribute.is c.loop-i-test.true)

pub overflow_cast-i : goal.overflow_cast-i
overflow_cast-i c = omega (arith, place_inside _ _ c.rest.ensures.list c.piece_at.ensures.piece c.in-Attribute.is c.loop-i-test.true)

pub overflow_add-i-in-Attribute : goal.overflow_add-i-in-Attribute
overflow_add-i-in-Attribute c = omega (arith, rw c.in-Attribute.is at c.piece_at.ensures.size)

pub loop-i-smaller : goal.loop-i-smaller
loop-i-smaller c = omega (arith, rw c.in-Attribute.is at c.piece_at.ensures.size)

pub loop-i-preserved : goal.loop-i-preserved
loop-i-preserved c = let size = rw c.in-Attribute.is at c.piece_at.ensures.size in
    collected-more _ _ c.rest.ensures.list c.piece_at.ensures.piece c.in-Attribute.is c.loop-i-test.true c.loop-i.invariant size.0
    c.put_due-n.ensures.cells c.put_due-n.ensures.size c.put_due-n.auto.h

pub shape_of-h-in_default : goal.shape_of-h-in_default
shape_of-h-in_default c = c.loop-i.invariant.same

pub returns-in_default : goal.returns-in_default
returns-in_default c = record { size = omega arith; cells = c.loop-i.invariant.cells }

pub shape_of-h : goal.shape_of-h
shape_of-h c = c.loop-i.invariant.same

pub returns : goal.returns
returns c = record { size = omega arith; cells = c.loop-i.invariant.cells }
