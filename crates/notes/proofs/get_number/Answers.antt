-- `notes::get_number` meets its contract. The invariant is `Sum`.
-- Assumes nothing.
use native.Mathlib.Omega.{arith}
use Rattle.notes.proofs.Reading.{sum-start, last_fits, group-fits, sum-short, sum-idle, sum-last, sum-next, sum-end}
use Rattle.notes.proofs.get_number.Goals as goal

pub loop-i-init : goal.loop-i-init
loop-i-init c = sum-start _

pub returns-then-s-i : goal.returns-then-s-i
returns-then-s-i c = sum-short _ _ _ _ _ c.loop-i.invariant (omega arith) c.if-s-i.true

pub returns-then-b-least : goal.returns-then-b-least
returns-then-b-least c = sum-idle _ _ _ _ _ c.loop-i.invariant c.loop-i-test.true c.if-s-i.false c.if-b-least.true

pub overflow_mul-whole : goal.overflow_mul-whole
overflow_mul-whole c = omega (arith, last_fits _ _ _ _ _ c.loop-i.invariant c.loop-i-test.true c.if-b-lt128.true)

pub overflow_add-whole : goal.overflow_add-whole
overflow_add-whole c = omega (arith, last_fits _ _ _ _ _ c.loop-i.invariant c.loop-i-test.true c.if-b-lt128.true)

pub returns-then-b-lt128 : goal.returns-then-b-lt128
returns-then-b-lt128 c = sum-last _ _ _ _ _ c.loop-i.invariant c.loop-i-test.true c.if-s-i.false c.if-b-least.false c.if-b-lt128.true

pub overflow_cast-group : goal.overflow_cast-group
overflow_cast-group c = omega (arith, c.shared_slice_known-1.given c.loop-i.i)

pub overflow_mul-value : goal.overflow_mul-value
overflow_mul-value c = omega (arith, group-fits _ _ _ _ _ c.loop-i.invariant c.loop-i-test.true (omega (arith, c.shared_slice_known-1.given c.loop-i.i)))

pub overflow_add-value : goal.overflow_add-value
overflow_add-value c = omega (arith, group-fits _ _ _ _ _ c.loop-i.invariant c.loop-i-test.true (omega (arith, c.shared_slice_known-1.given c.loop-i.i)))

pub overflow_mul-unit : goal.overflow_mul-unit
overflow_mul-unit c = omega (arith, group-fits _ _ _ _ _ c.loop-i.invariant c.loop-i-test.true (omega (arith, c.shared_slice_known-1.given c.loop-i.i)))

pub loop-i-preserved : goal.loop-i-preserved
loop-i-preserved c = sum-next _ _ _ _ _ c.loop-i.invariant c.loop-i-test.true c.if-s-i.false c.if-b-lt128.false (omega (arith, c.shared_slice_known-1.given c.loop-i.i))

pub returns : goal.returns
returns c = sum-end _ _ _ _ _ c.loop-i.invariant c.loop-i-test.false
