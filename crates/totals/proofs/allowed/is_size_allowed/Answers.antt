use native.Mathlib.Omega.{arith}
use mir.Facts.{to_z-of_z}
use Rattle.std.proofs.lemmas.Bool.Decides.{nat_tests}
use Rattle.totals.proofs.Shifts.{size-shifted}
use Rattle.totals.proofs.allowed.is_size_allowed.Goals as goal

pub returns : goal.returns
returns c = let e = rw (to_z-of_z c.ranges.a) at c.shifted-b.ensures in rw size-shifted (rw (← e) (grind (arith, nat_tests)))
