use Prim.Native.Nat.{◌-◌}
use mathlib.Core.Path.{refl, ◌∙◌}
use native.Mathlib.Omega.{arith}
use Rattle.characters.proofs.Saying.{said-char, said-over, said-end}
use Rattle.pictures.proofs.Numbering.{number-end, number-full, number-skip, number-digit}
use Rattle.pictures.specs.Number.{number_at}
use Rattle.pictures.proofs.number_at.Goals as goal

pub loop-i-init : goal.loop-i-init
unfolding number_at
loop-i-init c = (omega arith, refl)

pub returns-in_default : goal.returns-in_default
returns-in_default c = record { number = number-end c.loop-i.skip c.loop-i.left c.loop-i.shown (said-over c.args.v.now c.loop-i.i c.said_at.ensures.said c.in_default.is) ∙ c.loop-i.invariant.1; size = c.loop-i.invariant.0 }

pub overflow_add-i : goal.overflow_add-i
overflow_add-i c = omega (arith, rw c.in-Some.is at c.said_at.ensures.size)

pub loop-i-smaller-then-skip-gt0 : goal.loop-i-smaller-then-skip-gt0
loop-i-smaller-then-skip-gt0 c = omega (arith, rw c.in-Some.is at c.said_at.ensures.size)

pub loop-i-preserved-then-skip-gt0 : goal.loop-i-preserved-then-skip-gt0
loop-i-preserved-then-skip-gt0 c = (c.loop-i.invariant.0, number-skip c.loop-i.skip c.loop-i.left c.loop-i.shown (said-char _ _ c.said_at.ensures.said c.loop-i-test.true c.in-Some.is (rw c.in-Some.is at c.said_at.ensures.size).0) c.if-skip-gt0.true ∙ c.loop-i.invariant.1)

pub overflow_mul-shown : goal.overflow_mul-shown
overflow_mul-shown c = omega (arith, c.loop-i.invariant.0)

pub overflow_add-shown : goal.overflow_add-shown
overflow_add-shown c = omega (arith, c.loop-i.invariant.0)

pub loop-i-smaller : goal.loop-i-smaller
loop-i-smaller c = omega (arith, rw c.in-Some.is at c.said_at.ensures.size)

pub loop-i-preserved : goal.loop-i-preserved
loop-i-preserved c = (omega arith, number-digit c.loop-i.skip c.loop-i.left c.loop-i.shown (said-char _ _ c.said_at.ensures.said c.loop-i-test.true c.in-Some.is (rw c.in-Some.is at c.said_at.ensures.size).0) c.if-skip-gt0.false c.if-left-gt0.true ∙ c.loop-i.invariant.1)

pub returns-else-left-gt0 : goal.returns-else-left-gt0
returns-else-left-gt0 c = record { number = number-full c.loop-i.skip c.loop-i.left c.loop-i.shown (said-char _ _ c.said_at.ensures.said c.loop-i-test.true c.in-Some.is (rw c.in-Some.is at c.said_at.ensures.size).0) c.if-left-gt0.false ∙ c.loop-i.invariant.1; size = c.loop-i.invariant.0 }

pub returns : goal.returns
returns c = record { number = number-end c.loop-i.skip c.loop-i.left c.loop-i.shown (said-end c.args.v.now c.loop-i.i c.loop-i-test.false) ∙ c.loop-i.invariant.1; size = c.loop-i.invariant.0 }
