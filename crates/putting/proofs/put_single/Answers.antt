-- `putting::put_single` meets its contract.
-- Assumes nothing.
use native.Mathlib.Omega.{arith}
use Rattle.slices.specs.Text.{text}
use Rattle.putting.specs.Sheet.{open_text, attribute_of, scheme_text}
use Rattle.putting.proofs.Landing.{took, told, put_then, put-none, put_low}
use Rattle.putting.proofs.Singles.{no-single, a-single}
use Rattle.putting.proofs.put_single.Goals as goal

pub returns-then-not-has_value : goal.returns-then-not-has_value
returns-then-not-has_value c = let it = told (no-single c.args.text.now c.args.pairs.now c.args.w c.args.k _ c.has_value.ensures c.if-not-has_value.true) (put-none _ _ c.requires.place) in record { answer = it.0; buffer = it.1 }

pub put_attribute-v_end-requires : goal.put_attribute-v_end-requires
put_attribute-v_end-requires c = record { place = put_low (took (open_text c.args.w) (c.put_open-name_end.ensures.answer, c.put_open-name_end.ensures.buffer)); pair = omega (arith, c.requires.pair) }

pub put_scheme-end-requires : goal.put_scheme-end-requires
put_scheme-end-requires c = record { place = put_low (took (attribute_of (text " v=\"") c.args.text.now c.args.pairs.now c.args.k) (c.put_attribute-v_end.ensures.answer, c.put_attribute-v_end.ensures.buffer)); pair = c.requires.pair }

pub put_bytes-requires : goal.put_bytes-requires
put_bytes-requires c = put_low (took (scheme_text c.args.text.now c.args.pairs.now c.args.w c.args.k) (c.put_scheme-end.ensures.answer, c.put_scheme-end.ensures.buffer))

pub returns : goal.returns
returns c = let it = let p = took (open_text c.args.w) (c.put_open-name_end.ensures.answer, c.put_open-name_end.ensures.buffer) in
    let q = took (attribute_of (text " v=\"") c.args.text.now c.args.pairs.now c.args.k) (c.put_attribute-v_end.ensures.answer, c.put_attribute-v_end.ensures.buffer) in
    let r = took (scheme_text c.args.text.now c.args.pairs.now c.args.w c.args.k) (c.put_scheme-end.ensures.answer, c.put_scheme-end.ensures.buffer) in
    let s = took (text "/>") (c.put_bytes.ensures.answer, c.put_bytes.ensures.buffer) in
    told (a-single c.args.text.now c.args.pairs.now c.args.w c.args.k _ c.has_value.ensures c.if-not-has_value.false) (put_then p (put_then q (put_then r s))) in record { answer = it.0; buffer = it.1 }
