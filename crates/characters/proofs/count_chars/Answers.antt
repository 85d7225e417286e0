use lib.ListN.{length}
use native.Mathlib.Omega.{arith}
use mathlib.Core.Path.{ap}
use Rattle.characters.proofs.Saying.{said-char, said-over, said-end}
use Rattle.characters.proofs.count_chars.Goals as goal

pub loop-i-preserved : goal.loop-i-preserved
loop-i-preserved c = let s = rw c.in-Some.is at c.said_at.ensures.size in
    let e = ap length (said-char c.args.v.now c.loop-i.i c.said_at.ensures.said c.loop-i-test.true c.in-Some.is s.0) in
    omega (arith, s, e, c.loop-i.invariant)

pub returns-in_default : goal.returns-in_default
returns-in_default c = let e = ap length (said-over c.args.v.now c.loop-i.i c.said_at.ensures.said c.in_default.is) in omega (arith, e, c.loop-i.invariant)

pub returns : goal.returns
returns c = let e = ap length (said-end c.args.v.now c.loop-i.i c.loop-i-test.false) in omega (arith, e, c.loop-i.invariant)
