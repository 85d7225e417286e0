use native.Mathlib.Omega.{arith}
use mathlib.Core.Path.{◌∙◌}
use Prim.Native.Nat.{◌-◌}
use Rattle.characters.proofs.Saying.{said-char, said-over, said-end}
use Rattle.pictures.proofs.Fitting.{fit-end, fit-long, fit-stop, fit-more}
use Rattle.pictures.proofs.is_held.Goals as goal

pub returns-then-marks-k : goal.returns-then-marks-k
returns-then-marks-k c = fit-long _ _ _ (said-char _ _ c.said_at.ensures.said c.loop-i-test.true c.in-Some.is (rw c.in-Some.is at c.said_at.ensures.size).0) c.if-marks-k.true ∙ c.loop-i.invariant

pub overflow_add-i : goal.overflow_add-i
overflow_add-i c = omega (arith, rw c.in-Some.is at c.said_at.ensures.size)

pub loop-i-smaller : goal.loop-i-smaller
loop-i-smaller c = omega (arith, rw c.in-Some.is at c.said_at.ensures.size)

pub loop-i-preserved : goal.loop-i-preserved
loop-i-preserved c = fit-more _ _ _ (said-char _ _ c.said_at.ensures.said c.loop-i-test.true c.in-Some.is (rw c.in-Some.is at c.said_at.ensures.size).0) c.if-marks-k.false c.is_passed.ensures c.if-is_passed.true ∙ c.loop-i.invariant

pub returns-else-is_passed : goal.returns-else-is_passed
returns-else-is_passed c = fit-stop _ _ _ (said-char _ _ c.said_at.ensures.said c.loop-i-test.true c.in-Some.is (rw c.in-Some.is at c.said_at.ensures.size).0) c.if-marks-k.false c.is_passed.ensures c.if-is_passed.false ∙ c.loop-i.invariant

pub returns-in_default : goal.returns-in_default
returns-in_default c = fit-end _ c.args.marks.now c.loop-i.k (said-over c.args.v.now c.loop-i.i c.said_at.ensures.said c.in_default.is) ∙ c.loop-i.invariant

pub returns : goal.returns
returns c = fit-end _ c.args.marks.now c.loop-i.k (said-end c.args.v.now c.loop-i.i c.loop-i-test.false) ∙ c.loop-i.invariant
