use Prim.Native.Nat.{◌-◌, ◌<◌}
use mathlib.Core.Path.{◌≡◌}
use lib.ListN.{length, take, drop}
use Rattle.characters.specs.Says.{says}
use Rattle.pictures.specs.Number.{shown_number, number_at}
use Rattle.pictures.proofs.number_at.Given as goal

abbrev pub invariant-loop-i : goal.invariant-loop-i
invariant-loop-i l = (l.shown < 10000) × (shown_number l.shown (take l.left (drop l.skip (says (drop l.i l.v)))) ≡ number_at l.from l.n (says l.v))

abbrev pub decreases-loop-i : goal.decreases-loop-i
decreases-loop-i l = length l.v - l.i
