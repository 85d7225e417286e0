use mir.Syntax.{w64}
use mir.Facts.{to_z-of_z}
use Prim.Native.Nat.{◌+◌, ◌-◌}
use mathlib.Core.Path.{◌≡◌}
use mathlib.Core.List.{◌++◌}
use Rattle.putting.specs.Sheet.{interval_text}
use Rattle.putting.proofs.Landing.{took, left-start, left-more, left_end}
use Rattle.putting.proofs.Turns.{intervals_left, intervals-start, intervals-next, intervals-over}
use Rattle.putting.proofs.put_intervals.Goals as goal

pub loop-j-init : goal.loop-j-init
loop-j-init c = rw (intervals-start c.args.positions.now c.args.amounts.now c.args.first c.args.count) (left-start c.args.out.now c.args.at _ c.requires)

pub put_interval-end-requires : goal.put_interval-end-requires
put_interval-end-requires c = c.loop-j.invariant.low

pub loop-j-preserved : goal.loop-j-preserved
loop-j-preserved c = let p = c.number_at.result in
    let m = c.amount_at.result in
    let step : intervals_left c.args.positions.now c.args.amounts.now (c.args.first + c.args.count) c.loop-j.j
    ≡ interval_text p m ++ intervals_left c.args.positions.now c.args.amounts.now (c.args.first + c.args.count) (c.loop-j.j + 1) =
    intervals-next c.args.positions.now c.args.amounts.now (c.args.first + c.args.count) c.loop-j.j c.loop-j-test.true c.number_at.ensures c.amount_at.ensures in
    left-more c.loop-j.invariant step (took (interval_text p m) (rw (to_z-of_z {w = w64} {z = m} (record { sfits = c.amount_at.type_inv })) at c.put_interval-end.ensures.answer, rw (to_z-of_z {w = w64} {z = m} (record { sfits = c.amount_at.type_inv })) at c.put_interval-end.ensures.buffer))

pub shape_of-out : goal.shape_of-out
shape_of-out c = c.loop-j.invariant.same

pub returns : goal.returns
returns c = let it = left_end c.loop-j.invariant (intervals-over _ _ _ _ c.loop-j-test.false) in record { answer = it.0; buffer = it.1 }
