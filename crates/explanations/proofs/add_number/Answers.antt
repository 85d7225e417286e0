-- `explanations::add_number` meets its contract. The invariant is `Spelt`; the measure is what is left of the number.
-- Assumes nothing.
use Prim.Native.Nat.{◌^◌, ◌<◌, ◌+◌}
use native.Mathlib.Omega.{arith}
use lib.ListN.{length-set}
use borrow.Author.Rules.{rules}
use Rattle.explanations.specs.Decimal.{decimal}
use Rattle.explanations.proofs.Adding.{adds_same}
use Rattle.explanations.proofs.Digits.{spelt-start, spelt-first, spelt-next, spelt-part}
use Rattle.explanations.proofs.add_number.Goals as goal

pub loop-rest-init : goal.loop-rest-init
loop-rest-init c = let h : c.args.n < 2 ^ 32 = search rules in spelt-start _ (omega arith)

pub bounds-digits-i : goal.bounds-digits-i
bounds-digits-i c = omega (arith, c.loop-rest.invariant.ten, c.loop-rest.invariant.most)

pub overflow_sub-i : goal.overflow_sub-i
overflow_sub-i c = spelt-first _ _ _ _ c.loop-rest.invariant c.loop-rest-test.true

pub loop-rest-preserved : goal.loop-rest-preserved
loop-rest-preserved c = spelt-next _ _ _ _ c.loop-rest.invariant c.loop-rest-test.true

pub bounds-digits-i-2 : goal.bounds-digits-i-2
bounds-digits-i-2 c = omega (arith, c.loop-rest.invariant.ten, c.loop-rest.invariant.most)

pub slice_bounds-add_text-count : goal.slice_bounds-add_text-count
slice_bounds-add_text-count c = omega (arith, c.loop-rest.invariant.most)

pub slice_bounds-add_text-start : goal.slice_bounds-add_text-start
slice_bounds-add_text-start c = omega (arith, c.loop-rest.invariant.most)

pub slice_bounds-add_text-end : goal.slice_bounds-add_text-end
slice_bounds-add_text-end c = omega (arith, length-set c.loop-rest.digits c.loop-rest.i (48 + c.loop-rest.rest), c.loop-rest.invariant.ten, c.loop-rest.invariant.most)

pub returns : goal.returns
returns c = let it = let e = spelt-part c.args.n c.loop-rest.digits c.loop-rest.i c.loop-rest.rest c.loop-rest.invariant c.loop-rest-test.false in
    adds_same _ (decimal c.args.n) c.args.out.now _ c.args.at _ e (c.add_text.ensures.next, c.add_text.ensures.text) in record { next = it.0; text = it.1 }
