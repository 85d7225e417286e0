use native.Mathlib.Omega.{arith}
use Rattle.repeats.proofs.Bearing.{bearers-nil, borne-here}
use Rattle.repeats.proofs.Counted.{counted_start, counted-over, counted-torn, counted-close, counted-empty, counted-more}
use Rattle.repeats.proofs.count_bearers.Goals as goal

pub loop-i-init : goal.loop-i-init
loop-i-init c = counted_start _ _ _ (bearers-nil _)

pub overflow_add-n : goal.overflow_add-n
overflow_add-n c = omega (arith, rw c.in-Attribute.is at c.piece_at.ensures.size)

pub overflow_add-i : goal.overflow_add-i
overflow_add-i c = omega (arith, rw c.in-Attribute.is at c.piece_at.ensures.size)

pub loop-i-smaller : goal.loop-i-smaller
loop-i-smaller c = omega (arith, rw c.in-Attribute.is at c.piece_at.ensures.size)

pub loop-i-preserved : goal.loop-i-preserved
loop-i-preserved c = let size = rw c.in-Attribute.is at c.piece_at.ensures.size in
    counted-more c.loop-i.invariant c.rest-t.ensures.list c.piece_at.ensures.piece _
    c.loop-i-test.true c.in-Attribute.is size.0 c.one_if-n.ensures.size (borne-here _ _ _ c.one_if-n.ensures.number c.is_same.ensures c.part.ensures)

pub returns-in-Close : goal.returns-in-Close
returns-in-Close c = counted-close c.loop-i.invariant c.rest-t.ensures.list c.piece_at.ensures.piece (bearers-nil _) c.loop-i-test.true c.in-Close.is

pub returns-in-CloseEmpty : goal.returns-in-CloseEmpty
returns-in-CloseEmpty c = counted-empty c.loop-i.invariant c.rest-t.ensures.list c.piece_at.ensures.piece (bearers-nil _) c.loop-i-test.true c.in-CloseEmpty.is

pub returns-in-Torn : goal.returns-in-Torn
returns-in-Torn c = counted-torn c.loop-i.invariant c.rest-t.ensures.list c.piece_at.ensures.piece c.in-Torn.is

pub returns : goal.returns
returns c = counted-over c.loop-i.invariant c.loop-i-test.false
