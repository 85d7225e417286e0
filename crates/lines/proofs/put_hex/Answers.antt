-- `lines::put_hex` meets its contract. The invariant is `Shown`.
-- Assumes nothing.
use Rattle.lines.proofs.Hex.{shown-start, shown-last, shown-more, shown-end, done}
use Rattle.lines.proofs.put_hex.Goals.{then-i-s, else-i-s}
use Rattle.lines.proofs.put_hex.Goals as goal

pub loop-i-init : goal.loop-i-init
loop-i-init c = shown-start _ _

pub loop-i-preserved : goal.loop-i-preserved
loop-i-preserved c =
    let last = shown-last _ _ _ _ _ c.loop-i.invariant c.loop-i-test.true _ _ _ _ _ _ c.glyph-high.ensures c.glyph-low.ensures
    c.put_byte-n.ensures.next c.put_byte-n.ensures.byte c.put_byte-n-in-loop-i.ensures.next c.put_byte-n-in-loop-i.ensures.byte in
    let more = shown-more _ _ _ _ _ c.loop-i.invariant c.loop-i-test.true _ _ _ _ _ _ c.glyph-high.ensures c.glyph-low.ensures
    c.put_byte-n.ensures.next c.put_byte-n.ensures.byte c.put_byte-n-in-loop-i.ensures.next c.put_byte-n-in-loop-i.ensures.byte in
    elim c.if-i-s.branch [
      | then-i-s w ↦ rw (w.out-is, w.n-is) (more w.if-i-s.true _ _ w.put_byte-n-then-i-s.ensures.next w.put_byte-n-then-i-s.ensures.byte)
      | else-i-s w ↦ rw (w.out-is, w.n-is) (last w.if-i-s.false)
    ]

pub returns : goal.returns
returns c = let it = done (shown-end _ _ _ _ _ c.loop-i.invariant c.loop-i-test.false) in record { count = it.0; text = it.1.0; room = it.1.1 }
