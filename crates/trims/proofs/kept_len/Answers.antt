use mathlib.Core.Path.{ap, ◌∙◌}
use native.Mathlib.Omega.{arith}
use Rattle.characters.specs.Says.{said_at}
use Rattle.trims.proofs.Trimming.{keeping_start, keeping-end, keeping-never, keeping-space, keeping-other}
use Rattle.trims.proofs.kept_len.Goals as goal

pub loop-i-init : goal.loop-i-init
loop-i-init c = keeping_start _

pub returns-in_default : goal.returns-in_default
returns-in_default c = absurd (keeping-never c.loop-i.invariant c.loop-i-test.true (c.said_at.ensures.said ∙ ap said_at c.rest.ensures.list) c.in_default.is)

pub overflow_add-i : goal.overflow_add-i
overflow_add-i c = omega (arith, rw c.in-Some.is at c.said_at.ensures.size)

pub loop-i-smaller-then-c-ne32 : goal.loop-i-smaller-then-c-ne32
loop-i-smaller-then-c-ne32 c = omega (arith, rw c.in-Some.is at c.said_at.ensures.size)

pub loop-i-preserved-then-c-ne32 : goal.loop-i-preserved-then-c-ne32
loop-i-preserved-then-c-ne32 c = keeping-other c.loop-i.invariant c.loop-i-test.true (c.said_at.ensures.said ∙ ap said_at c.rest.ensures.list) c.in-Some.is c.if-c-ne32.true

pub loop-i-smaller : goal.loop-i-smaller
loop-i-smaller c = omega (arith, rw c.in-Some.is at c.said_at.ensures.size)

pub loop-i-preserved : goal.loop-i-preserved
loop-i-preserved c = keeping-space c.loop-i.invariant c.loop-i-test.true (c.said_at.ensures.said ∙ ap said_at c.rest.ensures.list) c.in-Some.is c.if-c-ne32.false

pub returns : goal.returns
returns c = keeping-end c.loop-i.invariant c.loop-i-test.false
