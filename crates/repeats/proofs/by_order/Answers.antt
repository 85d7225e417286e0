use mathlib.Core.Path.{refl, ◌∙◌}
use native.Mathlib.Omega.{arith}
use Rattle.repeats.proofs.Passes.{passed_start, passed-all, passed-more, passed-most}
use Rattle.repeats.proofs.by_order.Goals as goal

pub loop-seen-init : goal.loop-seen-init
loop-seen-init c = (refl, passed_start _ _ _)

pub shape_of-h-then-k-eq0 : goal.shape_of-h-then-k-eq0
shape_of-h-then-k-eq0 c = c.collect-k.auto.h ∙ c.loop-seen.invariant.0

pub returns-then-k-eq0 : goal.returns-then-k-eq0
returns-then-k-eq0 c = c.by_pairs.ensures

pub bounds-h-0 : goal.bounds-h-0
bounds-h-0 c = omega (arith, c.collect-k.auto.h)

pub falls-requires : goal.falls-requires
falls-requires c = omega (arith, c.collect-k.auto.h)

pub overflow_add-seen : goal.overflow_add-seen
overflow_add-seen c = omega (arith, passed-most c.loop-seen.invariant.1 c.requires.1 c.requires.2 c.collect-k.ensures.cells (c.falls.ensures c.if-falls.true))

pub loop-seen-smaller : goal.loop-seen-smaller
loop-seen-smaller c = omega (arith, passed-most c.loop-seen.invariant.1 c.requires.1 c.requires.2 c.collect-k.ensures.cells (c.falls.ensures c.if-falls.true))

pub loop-seen-preserved : goal.loop-seen-preserved
loop-seen-preserved c = (c.falls.auto.h ∙ c.collect-k.auto.h ∙ c.loop-seen.invariant.0, passed-more c.loop-seen.invariant.1 c.requires.1 c.requires.2 c.collect-k.ensures.cells (c.falls.ensures c.if-falls.true))

pub bounds-h-0-else-falls : goal.bounds-h-0-else-falls
bounds-h-0-else-falls c = omega (arith, c.falls.auto.h, c.collect-k.auto.h)

pub shape_of-h-else-falls : goal.shape_of-h-else-falls
shape_of-h-else-falls c = c.falls.auto.h ∙ c.collect-k.auto.h ∙ c.loop-seen.invariant.0

pub returns-else-falls : goal.returns-else-falls
returns-else-falls c = c.decided.ensures

pub shape_of-h : goal.shape_of-h
shape_of-h c = c.loop-seen.invariant.0

pub returns : goal.returns
returns c = passed-all c.loop-seen.invariant.1 c.requires.1 c.loop-seen-test.false
