use mathlib.Core.Path.{ap, ◌∙◌}
use native.Mathlib.Omega.{arith}
use Rattle.characters.specs.Says.{said_at}
use Rattle.trims.proofs.Trimming.{led-start, led-end, led-never, led-stop, led-more}
use Rattle.trims.proofs.leading_spaces.Goals as goal

pub loop-i-init : goal.loop-i-init
loop-i-init c = led-start _

pub returns-in_default : goal.returns-in_default
returns-in_default c = absurd (led-never c.loop-i.invariant c.loop-i-test.true (c.said_at.ensures.said ∙ ap said_at c.rest.ensures.list) c.in_default.is)

pub returns-then-c-ne32 : goal.returns-then-c-ne32
returns-then-c-ne32 c = record { lead = led-stop c.loop-i.invariant c.loop-i-test.true (c.said_at.ensures.said ∙ ap said_at c.rest.ensures.list) c.in-Some.is c.if-c-ne32.true; size = omega (arith, c.loop-i-test.true) }

pub overflow_add-i : goal.overflow_add-i
overflow_add-i c = omega (arith, (led-more c.loop-i.invariant c.loop-i-test.true (c.said_at.ensures.said ∙ ap said_at c.rest.ensures.list) c.in-Some.is c.if-c-ne32.false).inside)

pub loop-i-smaller : goal.loop-i-smaller
loop-i-smaller c = omega (arith, rw c.in-Some.is at c.said_at.ensures.size)

pub loop-i-preserved : goal.loop-i-preserved
loop-i-preserved c = led-more c.loop-i.invariant c.loop-i-test.true (c.said_at.ensures.said ∙ ap said_at c.rest.ensures.list) c.in-Some.is c.if-c-ne32.false

pub returns : goal.returns
returns c = record { lead = led-end c.loop-i.invariant c.loop-i-test.false; size = c.loop-i.invariant.inside }
