-- `lines::put_text` meets its contract. The invariant is `Copied`.
-- Assumes nothing.
use Rattle.lines.proofs.Copies.{copy_start, copy-next, copy-end}
use Rattle.lines.proofs.Hex.{done}
use Rattle.lines.proofs.put_text.Goals as goal

pub loop-i-init : goal.loop-i-init
loop-i-init c = copy_start _ _

pub loop-i-preserved : goal.loop-i-preserved
loop-i-preserved c = copy-next _ _ _ _ _ c.loop-i.invariant c.loop-i-test.true _ _ c.put_byte-n.ensures.next c.put_byte-n.ensures.byte

pub shape_of-out : goal.shape_of-out
shape_of-out c = c.loop-i.invariant.put.same

pub returns : goal.returns
returns c = let it = done (copy-end _ _ _ _ _ c.loop-i.invariant c.loop-i-test.false) in record { count = it.0; text = it.1.0; room = it.1.1 }
