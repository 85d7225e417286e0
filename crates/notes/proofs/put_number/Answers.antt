-- `notes::put_number` meets its contract. The invariant is `Cut`; the measure is what is left of the number.
-- Assumes nothing.
use mathlib.Core.Path.{refl}
use native.Mathlib.Nat.{zero-add}
use native.Mathlib.Omega.{arith}
use Rattle.notes.proofs.Writing.{cut-next, cut-long, cut-end}
use borrow.Author.Rules.{rules}
use Rattle.notes.proofs.put_number.Goals as goal

pub loop-rest-init : goal.loop-rest-init
loop-rest-init c = record { k = 4; few = zero-add 4; small = search rules; same = refl; long = zero-add _; all = refl }

pub overflow_add-i : goal.overflow_add-i
overflow_add-i c = omega (arith, c.loop-rest.invariant.few)

pub loop-rest-smaller : goal.loop-rest-smaller
loop-rest-smaller c = omega (arith, c.loop-rest-test.true)

pub loop-rest-preserved : goal.loop-rest-preserved
loop-rest-preserved c = cut-next _ _ _ _ _ c.loop-rest.invariant _ c.set_byte.ensures c.loop-rest-test.true

pub overflow_cast-rest-2 : goal.overflow_cast-rest-2
overflow_cast-rest-2 c = omega (arith, c.loop-rest-test.false)

pub overflow_add-result : goal.overflow_add-result
overflow_add-result c = omega (arith, c.loop-rest.invariant.few)

pub shape_of-free : goal.shape_of-free
shape_of-free c = omega (arith, c.set_byte-2.auto, c.loop-rest.invariant.same)

pub returns : goal.returns
returns c = let s = c.loop-rest.invariant in
    let h = c.loop-rest-test.false in
    record { answer = cut-long _ _ _ _ _ s h; buffer = cut-end _ _ _ _ _ s _ c.set_byte-2.ensures h }
