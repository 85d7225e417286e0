-- `references_run::show_said` ends: each turn passes what says a character.
-- Assumes nothing.
use Prim.Native.Nat.{◌-◌}
use lib.ListN.{length}
use Rattle.references_run.proofs.show_said.Given as goal

abbrev pub invariant-loop-i : goal.invariant-loop-i
invariant-loop-i g l = Unit {0}

abbrev pub decreases-loop-i : goal.decreases-loop-i
decreases-loop-i g l = length l.v - l.i
