use native.Mathlib.Omega.{arith}
use Rattle.putting.specs.Sheet.{root_text}
use Rattle.putting.proofs.Landing.{took, put_then, put_low}
use Rattle.putting.proofs.put_root.Goals as goal

pub put_attribute-end-requires : goal.put_attribute-end-requires
put_attribute-end-requires c = record { place = put_low (took _ (c.put_open-end.ensures.answer, c.put_open-end.ensures.buffer)); pair = omega arith }

pub put_attribute-end-requires-2 : goal.put_attribute-end-requires-2
put_attribute-end-requires-2 c = record { place = put_low (took _ (c.put_attribute-end.ensures.answer, c.put_attribute-end.ensures.buffer)); pair = omega arith }

pub put_attribute-end-requires-3 : goal.put_attribute-end-requires-3
put_attribute-end-requires-3 c = record { place = put_low (took _ (c.put_attribute-end-2.ensures.answer, c.put_attribute-end-2.ensures.buffer)); pair = omega arith }

pub put_bytes-requires : goal.put_bytes-requires
put_bytes-requires c = put_low (took _ (c.put_attribute-end-3.ensures.answer, c.put_attribute-end-3.ensures.buffer))

pub returns : goal.returns
unfolding root_text
returns c = let p =
    put_then (took _ (c.put_open-end.ensures.answer, c.put_open-end.ensures.buffer))
    (put_then (took _ (c.put_attribute-end.ensures.answer, c.put_attribute-end.ensures.buffer))
    (put_then (took _ (c.put_attribute-end-2.ensures.answer, c.put_attribute-end-2.ensures.buffer)) (put_then (took _ (c.put_attribute-end-3.ensures.answer, c.put_attribute-end-3.ensures.buffer)) (took _ (c.put_bytes.ensures.answer, c.put_bytes.ensures.buffer))))) in
    record { answer = p.answer; buffer = p.buffer }
