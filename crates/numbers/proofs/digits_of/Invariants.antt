use Prim.Native.Nat.{◌-◌}
use lib.ListN.{length, drop}
use Rattle.characters.specs.Says.{says}
use Rattle.numbers.proofs.Reading.{Read}
use Rattle.numbers.proofs.digits_of.Given as goal

abbrev pub invariant-loop-end : goal.invariant-loop-end
invariant-loop-end l = Read l.most l.before (says l.v) (says (drop l.end l.v)) l.count l.value

abbrev pub decreases-loop-end : goal.decreases-loop-end
decreases-loop-end l = length l.v - l.end
