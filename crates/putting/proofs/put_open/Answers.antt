-- `putting::put_open` meets its contract.
-- Assumes nothing.
use mathlib.Core.Path.{ap}
use Prim.Native.Nat.{ℕ}
use mathlib.Core.List.{◌++◌}
use Rattle.slices.specs.Text.{text}
use Rattle.putting.specs.Sheet.{open_text, name_text}
use Rattle.putting.proofs.Landing.{took, told, put_then, put_low}
use Rattle.putting.proofs.put_open.Goals as goal

pub put_name-requires : goal.put_name-requires
put_name-requires c = record { place = put_low (took (text "<") (c.put_bytes-name.ensures.answer, c.put_bytes-name.ensures.buffer)) }

pub returns : goal.returns
unfolding open_text
returns c = let it = let p = took (text "<") (c.put_bytes-name.ensures.answer, c.put_bytes-name.ensures.buffer) in
    let q = took (name_text _) (c.put_name.ensures.answer, c.put_name.ensures.buffer) in
    told (ap (λ (e : ℕ). text "<" ++ name_text e) c.name_of.ensures) (put_then p q) in record { answer = it.0; buffer = it.1 }
