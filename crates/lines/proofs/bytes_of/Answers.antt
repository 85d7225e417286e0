-- `lines::bytes_of` meets its contract.
-- Assumes nothing.
use mathlib.Core.Path.{refl, sym, ◌∙◌}
use mathlib.Core.List.{[], ◌∷◌, append_assoc, append-nil}
use native.Mathlib.Omega.{arith}
use Rattle.lines.proofs.Hex.{digit-fits, hex-pass, hex-first, hex-pair, hex-end}
use Rattle.lines.proofs.bytes_of.Goals.{in-Some-take+in_ok-push-in-Some-take, in-None}
use Rattle.lines.proofs.bytes_of.Goals as goal

-- two digits fit a byte
pub overflow_add-h : goal.overflow_add-h
overflow_add-h c =
    let low = digit-fits _ _ c.in-Some.ensures in
    let high = rw (sym c.take.ensures.value ∙ c.in-Some-take.is) at c.loop-c.invariant in
    omega (arith, low, high.digit)

pub loop-c-init : goal.loop-c-init
loop-c-init c = record { digit = tt; rest = rw c.new-bytes.ensures.items refl }

pub loop-c-preserved-in_default : goal.loop-c-preserved-in_default
loop-c-preserved-in_default c = record {
  digit = c.loop-c.invariant.digit;
  rest = rw (hex-pass _ _ _ c.loop-c-test.true c.in_default.ensures) at c.loop-c.invariant.rest;
}

pub loop-c-preserved : goal.loop-c-preserved
loop-c-preserved c =
    elim c.match-take.branch [
      | in-Some-take+in_ok-push-in-Some-take w ↦
          let e = sym c.take.ensures.value ∙ w.in-Some-take.is in
          let it = rw e at c.loop-c.invariant in
          rw (w.high-is, w.bytes-is, c.take.ensures.after) (record {
            digit = tt;
            rest = rw w.in_ok-push-in-Some-take.ensures.items (append_assoc _ (_ ∷ []) _ ∙ rw (hex-pair _ _ _ c.loop-c-test.true _ c.in-Some.ensures it.digit) at it.rest);
          })
      | in-None w ↦
          let e = sym c.take.ensures.value ∙ w.in-None.is in
          let it = rw e at c.loop-c.invariant in
          rw (w.high-is, w.bytes-is) (record {
            digit = digit-fits _ _ c.in-Some.ensures;
            rest = rw (hex-first _ _ 16 c.loop-c-test.true _ c.in-Some.ensures (omega arith)) at it.rest;
          })
    ]

pub returns : goal.returns
returns c = let e = rw (hex-end _ _ _ c.loop-c-test.false) at c.loop-c.invariant.rest in sym (append-nil _) ∙ e
