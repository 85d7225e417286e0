-- `escapes::put_text` meets its contract. The invariant is `Put`.
-- Assumes nothing.
use mathlib.Core.Path.{refl}
use lib.ListN.{drop_of_length-le}
use Rattle.escapes.proofs.Putting.{put-start, next-byte, put_byte, put-end}
use Rattle.escapes.proofs.put_text.Goals as goal

pub loop-i-init : goal.loop-i-init
loop-i-init c = put-start _ _

pub loop-i-preserved : goal.loop-i-preserved
loop-i-preserved c = let inv = c.loop-i.invariant in
    let h = c.loop-i-test.true in
    put_byte inv (next-byte _ _ h) c.set_byte.ensures

pub shape_of-free : goal.shape_of-free
shape_of-free c = c.loop-i.invariant.same

pub returns : goal.returns
returns c = let it = put-end c.loop-i.invariant (drop_of_length-le _ c.loop-i-test.false) in record { answer = refl; buffer = it.1 }
