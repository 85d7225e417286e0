use native.Mathlib.Omega.{arith}
use Rattle.views.proofs.Slots.{first-start, pairing-next, pairing-end}
use Rattle.views.proofs.layout.first_pair.Goals as goal

pub loop-i-init : goal.loop-i-init
loop-i-init c = record { is = first-start _; most = omega arith; low = omega arith }

pub pair_after-k-requires : goal.pair_after-k-requires
pair_after-k-requires c = let p = c.loop-i.invariant.most in
    omega (arith, p, c.loop-i-test.true, c.requires)

pub loop-i-preserved : goal.loop-i-preserved
loop-i-preserved c = pairing-next c.loop-i.invariant c.loop-i-test.true c.row_at.ensures c.pair_after-k.ensures.pair c.pair_after-k.ensures.size

pub returns : goal.returns
returns c = let p = c.loop-i.invariant in
    let m = p.most in
    let l = p.low in
    record { pair = pairing-end p c.loop-i-test.false; size = omega (arith, m, l, c.requires) }
