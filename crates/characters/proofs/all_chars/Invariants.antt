use Prim.Native.Nat.{◌-◌}
use lib.ListN.{length}
use Rattle.slices.proofs.Walks.{Walked}
use Rattle.characters.specs.Says.{char_next, chars_over}
use Rattle.characters.specs.Utf8.{char_at}
use Rattle.characters.proofs.all_chars.Given as goal

abbrev pub invariant-loop-i : goal.invariant-loop-i
invariant-loop-i l = Walked char_at char_next chars_over tt l.s tt l.i

abbrev pub decreases-loop-i : goal.decreases-loop-i
decreases-loop-i l = length l.s - l.i
