use native.Mathlib.Omega.{arith}
use mathlib.Core.Path.{refl}
use Rattle.repeats.proofs.Counted.{counted_start, counted-over, counted-torn, counted-close, counted-empty, counted-more}
use Rattle.repeats.proofs.count_attributes.Goals as goal

pub loop-i-init : goal.loop-i-init
loop-i-init c = counted_start _ _ _ refl

pub overflow_add-n : goal.overflow_add-n
overflow_add-n c = omega (arith, rw c.in-Attribute.is at c.piece_at.ensures.size)

pub overflow_add-i : goal.overflow_add-i
overflow_add-i c = omega (arith, rw c.in-Attribute.is at c.piece_at.ensures.size)

pub loop-i-smaller : goal.loop-i-smaller
loop-i-smaller c = omega (arith, rw c.in-Attribute.is at c.piece_at.ensures.size)

pub loop-i-preserved : goal.loop-i-preserved
loop-i-preserved c = let size = rw c.in-Attribute.is at c.piece_at.ensures.size in
    counted-more c.loop-i.invariant c.rest.ensures.list c.piece_at.ensures.piece 1
    c.loop-i-test.true c.in-Attribute.is size.0 (omega arith) (λ l. omega arith)

pub returns-in-Close : goal.returns-in-Close
returns-in-Close c = counted-close c.loop-i.invariant c.rest.ensures.list c.piece_at.ensures.piece refl c.loop-i-test.true c.in-Close.is

pub returns-in-CloseEmpty : goal.returns-in-CloseEmpty
returns-in-CloseEmpty c = counted-empty c.loop-i.invariant c.rest.ensures.list c.piece_at.ensures.piece refl c.loop-i-test.true c.in-CloseEmpty.is

pub returns-in-Torn : goal.returns-in-Torn
returns-in-Torn c = counted-torn c.loop-i.invariant c.rest.ensures.list c.piece_at.ensures.piece c.in-Torn.is

pub returns : goal.returns
returns c = counted-over c.loop-i.invariant c.loop-i-test.false
