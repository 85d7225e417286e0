-- `putting::put_attribute` meets its contract.
-- Assumes nothing.
use Rattle.slices.specs.Text.{text}
use Rattle.escapes.specs.Escaped.{escaped}
use Rattle.putting.proofs.Landing.{took, told, put_then, put-none, put_low}
use Rattle.putting.proofs.Singles.{no-attribute, an-attribute}
use Rattle.putting.proofs.put_attribute.Goals as goal

pub returns-then-not-is_given : goal.returns-then-not-is_given
returns-then-not-is_given c = let it = told (no-attribute c.args.opens.now c.args.text.now c.args.pairs.now c.args.k _ c.is_given.ensures c.if-not-is_given.true) (put-none _ _ c.requires.place) in record { answer = it.0; buffer = it.1 }

pub put_escaped_at-end-requires : goal.put_escaped_at-end-requires
put_escaped_at-end-requires c = put_low (took _ (c.put_bytes-value.ensures.answer, c.put_bytes-value.ensures.buffer))

pub put_bytes-requires : goal.put_bytes-requires
put_bytes-requires c = put_low (took (escaped _) (c.put_escaped_at-end.ensures.answer, c.put_escaped_at-end.ensures.buffer))

pub returns : goal.returns
returns c = let it = let p = took c.args.opens.now (c.put_bytes-value.ensures.answer, c.put_bytes-value.ensures.buffer) in
    let q = took (escaped _) (c.put_escaped_at-end.ensures.answer, c.put_escaped_at-end.ensures.buffer) in
    let r = took (text "\"") (c.put_bytes.ensures.answer, c.put_bytes.ensures.buffer) in
    told
    (an-attribute c.args.opens.now c.args.text.now c.args.pairs.now c.args.k _ c.is_given.ensures c.if-not-is_given.false _ c.shown.ensures)
    (put_then p (put_then q r)) in record { answer = it.0; buffer = it.1 }
