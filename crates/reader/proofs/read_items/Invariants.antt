use Prim.Native.Nat.{◌-◌}
use lib.ListN.{length}
use Rattle.reader.specs.Reading.{tab}
use Rattle.reader.proofs.Ran.{Ran}
use Rattle.reader.proofs.read_items.Given as goal

abbrev pub invariant-loop-at : goal.invariant-loop-at
invariant-loop-at l = Ran l.doc l.from (tab l.initial.series l.initial.positions l.initial.amounts) l.rows l.room l.series l.positions l.amounts l.st l.at

abbrev pub decreases-loop-at : goal.decreases-loop-at
decreases-loop-at l = length l.doc - l.at
