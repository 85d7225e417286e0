-- `lines::put_bytes` meets its contract.
-- Assumes nothing.
use mathlib.Core.Path.{sym, ◌∙◌}
use native.Mathlib.Omega.{arith}
use Rattle.lists.proofs.Stores.{put-start, put_next}
use Rattle.lines.proofs.Hex.{digit-fits, hex-pass, hex-first, hex-pair, hex-end, done}
use Rattle.lines.proofs.put_bytes.Goals.{in-Some-take, in-None}
use Rattle.lines.proofs.put_bytes.Goals as goal

-- two digits fit a byte
pub overflow_add-h : goal.overflow_add-h
overflow_add-h c =
    let low = digit-fits _ _ c.in-Some.ensures in
    let high = rw (sym c.take.ensures.value ∙ c.in-Some-take.is) at c.loop-c.invariant in
    omega (arith, low, high.digit)

pub loop-c-init : goal.loop-c-init
loop-c-init c = record { digit = tt; put = put-start _ _ }

pub loop-c-preserved-in_default : goal.loop-c-preserved-in_default
loop-c-preserved-in_default c = record {
  digit = c.loop-c.invariant.digit;
  put = rw (hex-pass _ _ _ c.loop-c-test.true c.in_default.ensures) at c.loop-c.invariant.put;
}

pub loop-c-preserved : goal.loop-c-preserved
loop-c-preserved c =
    elim c.match-take.branch [
      | in-Some-take w ↦
          let e = sym c.take.ensures.value ∙ w.in-Some-take.is in
          let it = rw e at c.loop-c.invariant in
          rw (w.high-is, w.out-is, w.n-is, c.take.ensures.after) (record {
            digit = tt;
            put = put_next (rw (hex-pair _ _ _ c.loop-c-test.true _ c.in-Some.ensures it.digit) at it.put) w.put_byte-n.ensures.next w.put_byte-n.ensures.byte;
          })
      | in-None w ↦
          let e = sym c.take.ensures.value ∙ w.in-None.is in
          let it = rw e at c.loop-c.invariant in
          rw (w.high-is, w.out-is, w.n-is) (record {
            digit = digit-fits _ _ c.in-Some.ensures;
            put = rw (hex-first _ _ 16 c.loop-c-test.true _ c.in-Some.ensures (omega arith)) at it.put;
          })
    ]

pub returns : goal.returns
returns c = let it = done (rw (hex-end _ _ _ c.loop-c-test.false) at c.loop-c.invariant.put) in
    record { count = it.0; bytes = it.1.0; room = it.1.1 }
