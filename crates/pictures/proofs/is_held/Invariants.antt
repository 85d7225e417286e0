use mathlib.Core.Path.{◌≡◌}
use mathlib.Core.List.{map}
use Prim.Native.Nat.{◌-◌}
use lib.ListN.{length, drop}
use Rattle.characters.specs.Says.{says}
use Rattle.pictures.specs.Picture.{held, test}
use Rattle.pictures.proofs.is_held.Given as goal

abbrev pub invariant-loop-i : goal.invariant-loop-i
invariant-loop-i l = held (map (test l.plain) (drop l.k l.marks)) (says (drop l.i l.v)) ≡ held (map (test l.plain) l.marks) (says l.v)

abbrev pub decreases-loop-i : goal.decreases-loop-i
decreases-loop-i l = length l.v - l.i
