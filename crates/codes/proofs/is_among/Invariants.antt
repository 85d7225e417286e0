use Prim.Native.Nat.{◌-◌}
use mathlib.Core.Path.{◌≡◌}
use lib.ListN.{length, drop}
use Rattle.characters.specs.Says.{says}
use Rattle.codes.specs.Lists.{listed}
use Rattle.codes.specs.Words.{words}
use Rattle.codes.proofs.is_among.Given as goal

abbrev pub invariant-loop-i : goal.invariant-loop-i
invariant-loop-i l = listed (words l.n (drop l.i l.codes)) (says l.v) ≡ listed (words l.n l.codes) (says l.v)

abbrev pub decreases-loop-i : goal.decreases-loop-i
decreases-loop-i l = length l.codes - l.i
