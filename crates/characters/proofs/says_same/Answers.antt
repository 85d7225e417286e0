use mathlib.Core.Path.{ap, ◌∙◌}
use Rattle.characters.specs.Says.{said_at}
use Rattle.characters.proofs.Alike.{own-abreast, abreast-never, abreast-over, abreast-stop, abreast-more, abreast-end}
use Rattle.characters.proofs.says_same.Goals as goal

pub loop-i-init : goal.loop-i-init
loop-i-init c = rw c.own_len-alike.ensures.len (own-abreast c.args.a.now c.args.b.now)

pub returns-in_default : goal.returns-in_default
returns-in_default c = absurd (abreast-never c.loop-i.invariant c.loop-i-test.true (c.said_at.ensures.said ∙ ap said_at c.rest.ensures.list) c.in_default.is)

pub returns-in_default-said_at : goal.returns-in_default-said_at
returns-in_default-said_at c = abreast-over c.loop-i.invariant c.loop-i-test.true (c.said_at.ensures.said ∙ ap said_at c.rest.ensures.list) c.in-Some.is (c.said_at-in-loop-i.ensures.said ∙ ap said_at c.rest-in-loop-i.ensures.list) c.in_default-said_at.is

pub returns-then-c-d : goal.returns-then-c-d
returns-then-c-d c = abreast-stop c.loop-i.invariant c.loop-i-test.true (c.said_at.ensures.said ∙ ap said_at c.rest.ensures.list) c.in-Some.is (c.said_at-in-loop-i.ensures.said ∙ ap said_at c.rest-in-loop-i.ensures.list) c.in-Some-said_at.is c.if-c-d.true

pub loop-i-preserved : goal.loop-i-preserved
loop-i-preserved c = abreast-more c.loop-i.invariant c.loop-i-test.true (c.said_at.ensures.said ∙ ap said_at c.rest.ensures.list) c.in-Some.is (c.said_at-in-loop-i.ensures.said ∙ ap said_at c.rest-in-loop-i.ensures.list) c.in-Some-said_at.is c.if-c-d.false

pub returns : goal.returns
returns c = abreast-end c.loop-i.invariant c.loop-i-test.false
