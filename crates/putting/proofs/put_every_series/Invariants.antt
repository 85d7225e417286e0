use Rattle.putting.specs.Sheet.{every_series_text}
use Rattle.putting.proofs.Landing.{Left}
use Rattle.putting.proofs.Turns.{series_left}
use Rattle.putting.proofs.put_every_series.Given as goal

abbrev pub invariant-loop-i : goal.invariant-loop-i
invariant-loop-i l = Left l.initial.out l.at (every_series_text l.text l.pairs l.rows l.series l.positions l.amounts 0 l.count) l.out l.end (series_left l.text l.pairs l.rows l.series l.positions l.amounts l.count l.i)
