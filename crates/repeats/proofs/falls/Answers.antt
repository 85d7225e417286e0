use mathlib.Core.Path.{sym, ◌∙◌}
use native.Mathlib.Omega.{arith}
use lib.ListN.{length-set}
use Rattle.lists.proofs.Cases.{never}
use Rattle.repeats.proofs.Falling.{falling-start, falling-more, falling-end}
use Rattle.repeats.proofs.falls.Goals as goal

pub loop-k-init : goal.loop-k-init
loop-k-init c = falling-start _ _ _ c.requires.0

pub sink-requires : goal.sink-requires
sink-requires c = simp length-set (omega arith)

pub bounds-h-0-in-loop-k-2 : goal.bounds-h-0-in-loop-k-2
bounds-h-0-in-loop-k-2 c = omega (arith, simp length-set at c.sink.auto.h)

pub shape_of-h-then-not-is_before : goal.shape_of-h-then-not-is_before
shape_of-h-then-not-is_before c = c.sink.auto.h ∙ simp length-set c.loop-k.invariant.same

pub returns-then-not-is_before : goal.returns-then-not-is_before
returns-then-not-is_before c = λ y. never y

pub loop-k-preserved : goal.loop-k-preserved
loop-k-preserved c = falling-more c.loop-k.invariant c.loop-k-test.true c.requires.1 c.sink.ensures c.sink.auto.h (sym c.is_before.ensures ∙ c.if-not-is_before.false)

pub shape_of-h : goal.shape_of-h
shape_of-h c = c.loop-k.invariant.same

pub returns : goal.returns
returns c = λ y. falling-end c.loop-k.invariant _ c.loop-k-test.false (sym c.is_before-2.ensures ∙ y)
