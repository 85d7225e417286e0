use Rattle.putting.proofs.Landing.{took, told, put_then, put_low}
use Rattle.putting.proofs.Turns.{series-whole}
use Rattle.putting.proofs.put_series.Goals as goal

pub put_bytes-inside-requires : goal.put_bytes-inside-requires
put_bytes-inside-requires c = put_low (took _ (c.put_open-name_end.ensures.answer, c.put_open-name_end.ensures.buffer))

pub put_singles-period-requires : goal.put_singles-period-requires
put_singles-period-requires c = record { place = put_low (took _ (c.put_bytes-inside.ensures.answer, c.put_bytes-inside.ensures.buffer)); rows = c.requires.rows; pair = c.requires.pair }

pub put_intervals-intervals-requires : goal.put_intervals-intervals-requires
put_intervals-intervals-requires c = put_low (took _ (c.put_singles-period.ensures.answer, c.put_singles-period.ensures.buffer))

pub put_bytes-end-requires : goal.put_bytes-end-requires
put_bytes-end-requires c = put_low (took _ (c.put_intervals-intervals.ensures.answer, c.put_intervals-intervals.ensures.buffer))

pub put_close-requires : goal.put_close-requires
put_close-requires c = put_low (took _ (c.put_bytes-end.ensures.answer, c.put_bytes-end.ensures.buffer))

pub returns : goal.returns
returns c = let it = told (series-whole _ _ _ _ _ _ _ _ _ c.row_at-w.ensures)
    (put_then (took _ (c.put_open-name_end.ensures.answer, c.put_open-name_end.ensures.buffer))
    (put_then (took _ (c.put_bytes-inside.ensures.answer, c.put_bytes-inside.ensures.buffer))
    (put_then (took _ (c.put_singles-period.ensures.answer, c.put_singles-period.ensures.buffer))
    (put_then (took _ (c.put_intervals-intervals.ensures.answer, c.put_intervals-intervals.ensures.buffer)) (put_then (took _ (c.put_bytes-end.ensures.answer, c.put_bytes-end.ensures.buffer)) (took _ (c.put_close.ensures.answer, c.put_close.ensures.buffer))))))) in record { answer = it.0; buffer = it.1 }
