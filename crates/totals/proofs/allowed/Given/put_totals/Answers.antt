use native.Mathlib.Omega.{arith}
use Rattle.totals.specs.Given.{handed_of}
use Rattle.totals.proofs.Facts.{adds-at}
use Rattle.totals.proofs.Adding.{summed-start, one-held, summed-next, summed-end, sum-end}
use Rattle.totals.proofs.allowed.Given.put_totals.Goals as goal

pub loop-i-init : goal.loop-i-init
loop-i-init c = let g = handed_of c.args.self in summed-start g c.args.totals.now c.requires.blank

pub series_sum-v-requires : goal.series_sum-v-requires
series_sum-v-requires c = let g = handed_of c.args.self in let el = rw c.field_of.ensures at c.last_quarter-last.ensures in let ad = adds-at g c.requires.allowed _ c.loop-i-test.true el in ad

pub put_pair-requires : goal.put_pair-requires
put_pair-requires c = let g = handed_of c.args.self in let el = rw c.field_of.ensures at c.last_quarter-last.ensures in let ad = adds-at g c.requires.allowed _ c.loop-i-test.true el in let h = one-held g _ _ el ad _ c.series_sum-v.ensures in
    record { place = omega (arith, c.requires.most, c.loop-i-test.true); quarters = omega (arith, h.1); held = h.0; rest = c.series_sum-v.ensures.rest }

pub with_words-w-requires : goal.with_words-w-requires
with_words-w-requires c = let g = handed_of c.args.self in let el = rw c.field_of.ensures at c.last_quarter-last.ensures in let ad = adds-at g c.requires.allowed _ c.loop-i-test.true el in let h = one-held g _ _ el ad _ c.series_sum-v.ensures in let s = c.loop-i.invariant in
    record { held = omega (arith, s.held, s.quarters, s.most, c.requires.most); rest = s.rest; more = omega (arith, h.0, h.1); morerest = c.series_sum-v.ensures.rest }

pub overflow_add-n : goal.overflow_add-n
overflow_add-n c = let g = handed_of c.args.self in let el = rw c.field_of.ensures at c.last_quarter-last.ensures in let ad = adds-at g c.requires.allowed _ c.loop-i-test.true el in let h = one-held g _ _ el ad _ c.series_sum-v.ensures in let s = c.loop-i.invariant in record { fits = omega (arith, s.quarters, s.most, h.1, c.requires.most) }

pub loop-i-preserved : goal.loop-i-preserved
loop-i-preserved c = let g = handed_of c.args.self in let el = rw c.field_of.ensures at c.last_quarter-last.ensures in let ad = adds-at g c.requires.allowed _ c.loop-i-test.true el in summed-next g _ _ el ad _ c.series_sum-v.ensures _ _ _ _ _ _ c.loop-i.invariant c.loop-i-test.true c.put_pair.ensures c.with_words-w.ensures

pub put_pair-requires-2 : goal.put_pair-requires-2
put_pair-requires-2 c = let s = c.loop-i.invariant in
    record { place = omega arith; quarters = omega (arith, s.quarters, s.most, c.requires.most); held = s.held; rest = s.rest }

pub shape_of-totals : goal.shape_of-totals
shape_of-totals c = c.loop-i.invariant.same

pub shape_of-sum : goal.shape_of-sum
shape_of-sum c = c.put_pair-2.auto.t

pub returns : goal.returns
returns c = let g = handed_of c.args.self in let s = c.loop-i.invariant in let t = c.loop-i-test.false in
    record { each = summed-end g _ _ _ _ _ s t; all = sum-end g _ _ _ _ _ s t c.args.sum.now _ c.requires.empty c.put_pair-2.ensures }
