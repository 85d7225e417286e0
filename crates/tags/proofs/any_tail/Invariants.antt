use Prim.Native.Nat.{◌+◌, ◌-◌, ◌≤◌}
use mathlib.Core.Path.{◌≡◌}
use lib.ListN.{length}
use Rattle.tags.specs.Tail.{ends, tail}
use Rattle.tags.proofs.any_tail.Given as goal

abbrev pub invariant-loop-i : goal.invariant-loop-i
invariant-loop-i l = (tail l.k (ends l.s l.i) ≡ tail l.initial.k (ends l.s l.from)) × (l.k.v.start + l.k.v.len ≤ l.i)

abbrev pub decreases-loop-i : goal.decreases-loop-i
decreases-loop-i l = length l.s - l.i
