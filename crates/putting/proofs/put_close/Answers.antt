-- `putting::put_close` meets its contract.
-- Assumes nothing.
use mathlib.Core.Path.{ap}
use Prim.Native.Nat.{ℕ}
use mathlib.Core.List.{◌++◌}
use Rattle.slices.specs.Text.{text}
use Rattle.putting.specs.Sheet.{close_text, name_text}
use Rattle.putting.proofs.Landing.{took, told, put_then, put_low}
use Rattle.putting.proofs.put_close.Goals as goal

pub put_name-end-requires : goal.put_name-end-requires
put_name-end-requires c = record { place = put_low (took (text "</") (c.put_bytes-name.ensures.answer, c.put_bytes-name.ensures.buffer)) }

pub put_bytes-requires : goal.put_bytes-requires
put_bytes-requires c = put_low (took (name_text _) (c.put_name-end.ensures.answer, c.put_name-end.ensures.buffer))

pub returns : goal.returns
unfolding close_text
returns c = let it = let p = took (text "</") (c.put_bytes-name.ensures.answer, c.put_bytes-name.ensures.buffer) in
    let q = took (name_text _) (c.put_name-end.ensures.answer, c.put_name-end.ensures.buffer) in
    let r = took (text ">") (c.put_bytes.ensures.answer, c.put_bytes.ensures.buffer) in
    told (ap (λ (e : ℕ). text "</" ++ (name_text e ++ text ">")) c.name_of.ensures) (put_then p (put_then q r)) in record { answer = it.0; buffer = it.1 }
