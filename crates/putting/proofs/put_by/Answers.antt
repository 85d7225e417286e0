use native.Mathlib.Omega.{arith}
use Rattle.putting.proofs.Landing.{took, told, put_then, put_low}
use Rattle.putting.proofs.Turns.{sheet-whole}
use Rattle.putting.proofs.put_by.Goals as goal

pub put_singles-from-requires : goal.put_singles-from-requires
put_singles-from-requires c = record { place = put_low (took _ (c.put_root-header.ensures.answer, c.put_root-header.ensures.buffer)); rows = c.requires; pair = omega arith }

pub put_every_series-end-requires : goal.put_every_series-end-requires
put_every_series-end-requires c = record { place = put_low (took _ (c.put_singles-from.ensures.answer, c.put_singles-from.ensures.buffer)); rows = c.requires }

pub put_close-requires : goal.put_close-requires
put_close-requires c = put_low (took _ (c.put_every_series-end.ensures.answer, c.put_every_series-end.ensures.buffer))

pub returns : goal.returns
returns c = let it = told (sheet-whole _ _ _ _ _ _ _ c.row_at-root.ensures)
    (put_then (took _ (c.put_root-header.ensures.answer, c.put_root-header.ensures.buffer))
    (put_then (took _ (c.put_singles-from.ensures.answer, c.put_singles-from.ensures.buffer)) (put_then (took _ (c.put_every_series-end.ensures.answer, c.put_every_series-end.ensures.buffer)) (took _ (c.put_close.ensures.answer, c.put_close.ensures.buffer))))) in record { answer = it.0; buffer = it.1 }
