use native.Mathlib.Omega.{arith}
use Rattle.putting.proofs.Landing.{took, left-start, left-more, left_end}
use Rattle.putting.proofs.Turns.{series-start, series-next, series-over}
use Rattle.putting.proofs.put_every_series.Goals as goal

pub loop-i-init : goal.loop-i-init
loop-i-init c = rw (series-start c.args.text.now c.args.pairs.now c.args.rows.now c.args.series.now c.args.positions.now c.args.amounts.now c.args.count)
    (left-start c.args.out.now c.args.at _ c.requires.place)

pub put_series-end-requires : goal.put_series-end-requires
put_series-end-requires c = record { place = c.loop-i.invariant.low; rows = c.requires.rows; row = omega (arith, c.requires.rows, c.role_row-row.ensures.size); pair = omega arith }

pub loop-i-preserved : goal.loop-i-preserved
loop-i-preserved c = left-more c.loop-i.invariant
    (series-next _ _ _ _ _ _ _ _ c.loop-i-test.true c.role_row-row.ensures.row c.field_of-first.ensures c.field_of-n.ensures)
    (took _ (c.put_series-end.ensures.answer, c.put_series-end.ensures.buffer))

pub shape_of-out : goal.shape_of-out
shape_of-out c = c.loop-i.invariant.same

pub returns : goal.returns
returns c = let it = left_end c.loop-i.invariant (series-over _ _ _ _ _ _ _ _ c.loop-i-test.false) in record { answer = it.0; buffer = it.1 }
