use mathlib.Core.Path.{sym}
use native.Mathlib.Omega.{arith}
use lib.ListN.{length}
use lib.Seq.{length-take-le}
use Rattle.writer.specs.Permitted.{written}
use Rattle.writer.proofs.Fits.{Lending, fits-room, fits-none}
use Rattle.writer.proofs.write_fit.Goals as goal

pub slice_bounds-put_sheet-end-2 : goal.slice_bounds-put_sheet-end-2
slice_bounds-put_sheet-end-2 c = sym (length-take-le _ _ c.room_in-room.ensures.least)

pub returns-then-room-len : goal.returns-then-room-len
unfolding written
returns-then-room-len c = let p : Lending _ _ (length c.args.out.now) _ _ _ = record { room-is = c.room_in-room.ensures.room; cleared = c.clear_bytes.ensures; told = c.put_sheet-len.ensures.answer; left = c.put_sheet-len.ensures.buffer } in
    let r = fits-none p c.if-room-len.true c.clear_bytes-then-room-len.ensures in
    record { answer = r.0; buffer = r.1; size = omega arith }

pub returns : goal.returns
unfolding written
returns c = let p : Lending _ _ (length c.args.out.now) _ _ _ = record { room-is = c.room_in-room.ensures.room; cleared = c.clear_bytes.ensures; told = c.put_sheet-len.ensures.answer; left = c.put_sheet-len.ensures.buffer } in
    let h = c.if-room-len.false in
    let most = c.room_in-room.ensures.most in
    let r = fits-room p h in
    record { answer = r.0; buffer = r.1; size = omega (arith, h, most) }
