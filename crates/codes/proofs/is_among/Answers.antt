use Prim.Native.Nat.{◌-◌}
use mathlib.Core.Path.{◌∙◌}
use Rattle.characters.specs.Says.{says}
use Rattle.codes.proofs.Rows.{among-yes, among-no, among-end}
use Rattle.codes.proofs.is_among.Goals as goal

pub returns-then-is_said : goal.returns-then-is_said
returns-then-is_said c = among-yes c.args.n c.args.codes.now (says c.args.v.now) c.loop-i.i c.loop-i-test.true c.front.ensures.list c.is_said.ensures c.if-is_said.true ∙ c.loop-i.invariant

pub loop-i-preserved : goal.loop-i-preserved
loop-i-preserved c = among-no c.args.n c.args.codes.now (says c.args.v.now) c.loop-i.i c.loop-i-test.true c.front.ensures.list c.is_said.ensures c.if-is_said.false ∙ c.loop-i.invariant

pub returns : goal.returns
returns c = among-end c.args.n c.args.codes.now (says c.args.v.now) c.loop-i.i c.loop-i-test.false ∙ c.loop-i.invariant
