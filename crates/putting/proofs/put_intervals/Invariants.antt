use Rattle.putting.specs.Sheet.{intervals_text}
use Rattle.putting.proofs.Landing.{Left}
use Rattle.putting.proofs.Turns.{intervals_left}
use Rattle.putting.proofs.put_intervals.Given as goal

abbrev pub invariant-loop-j : goal.invariant-loop-j
invariant-loop-j l = Left l.initial.out l.at (intervals_text l.positions l.amounts l.first l.count) l.out l.end (intervals_left l.positions l.amounts l.last l.j)
