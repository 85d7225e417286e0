-- `putting::texts::put_bytes` meets its contract. The invariant is `Ran`.
-- Assumes nothing.
use native.Mathlib.Omega.{arith}
use Rattle.putting.proofs.Lent.{ran-start, ran-same, ran-more, ran-past, ran-end}
use Rattle.putting.proofs.texts.put_bytes.Goals as goal
use Rattle.putting.proofs.texts.put_bytes.Goals.{then-at-i, else-at-i}

pub loop-i-init : goal.loop-i-init
loop-i-init c = ran-start _ _ _

pub loop-i-preserved : goal.loop-i-preserved
loop-i-preserved c = let inv = c.loop-i.invariant in
    let h = c.loop-i-test.true in
    elim c.if-at-i.branch [ then-at-i w ↦ ran-more inv h w.out-is | else-at-i w ↦ ran-past inv h w.if-at-i.false w.out-is ]

pub after-requires : goal.after-requires
after-requires c = let e = ran-same c.loop-i.invariant in omega (arith, e)

pub shape_of-out : goal.shape_of-out
shape_of-out c = ran-same c.loop-i.invariant

pub returns : goal.returns
returns c = let it = ran-end c.loop-i.invariant c.loop-i-test.false c.after.ensures in record { answer = it.0; buffer = it.1 }
