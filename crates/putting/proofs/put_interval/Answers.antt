-- `putting::put_interval` meets its contract.
-- Assumes nothing.
use mathlib.Core.Path.{refl}
use mir.Facts.{to_z-of_z}
use Rattle.slices.specs.Text.{text}
use Rattle.wholes.specs.Whole.{whole_text}
use Rattle.amounts.specs.Texts.{amount_text}
use Rattle.putting.specs.Sheet.{interval_text}
use Rattle.putting.proofs.Landing.{took, told, put_then, put_low}
use Rattle.putting.proofs.put_interval.Goals as goal

pub put_position_at-pos_end-requires : goal.put_position_at-pos_end-requires
put_position_at-pos_end-requires c = put_low (took (text "<Interval><Pos v=\"") (c.put_bytes-pos.ensures.answer, c.put_bytes-pos.ensures.buffer))

pub put_bytes-qty-requires : goal.put_bytes-qty-requires
put_bytes-qty-requires c = put_low (took (whole_text c.args.p) (c.put_position_at-pos_end.ensures.answer, c.put_position_at-pos_end.ensures.buffer))

pub put_amount_at-qty_end-requires : goal.put_amount_at-qty_end-requires
put_amount_at-qty_end-requires c = put_low (took (text "\"/><Qty v=\"") (c.put_bytes-qty.ensures.answer, c.put_bytes-qty.ensures.buffer))

pub put_bytes-requires : goal.put_bytes-requires
put_bytes-requires c = put_low (took (amount_text c.args.a) (rw (to_z-of_z c.ranges.a) at c.put_amount_at-qty_end.ensures.answer, rw (to_z-of_z c.ranges.a) at c.put_amount_at-qty_end.ensures.buffer))

pub returns : goal.returns
unfolding interval_text
returns c = let it = let p = took (text "<Interval><Pos v=\"") (c.put_bytes-pos.ensures.answer, c.put_bytes-pos.ensures.buffer) in
    let q = took (whole_text c.args.p) (c.put_position_at-pos_end.ensures.answer, c.put_position_at-pos_end.ensures.buffer) in
    let r = took (text "\"/><Qty v=\"") (c.put_bytes-qty.ensures.answer, c.put_bytes-qty.ensures.buffer) in
    let s = took (amount_text c.args.a) (rw (to_z-of_z c.ranges.a) at c.put_amount_at-qty_end.ensures.answer, rw (to_z-of_z c.ranges.a) at c.put_amount_at-qty_end.ensures.buffer) in
    let t = took (text "\"/></Interval>") (c.put_bytes.ensures.answer, c.put_bytes.ensures.buffer) in
    told refl (put_then p (put_then q (put_then r (put_then s t)))) in record { answer = it.0; buffer = it.1 }
