use native.Mathlib.Omega.{arith}
use Rattle.slices.proofs.Walks.{walked-go, walked_stop, walked_end}
use Rattle.characters.specs.Says.{char_next, chars_over, all_chars}
use Rattle.characters.proofs.all_chars.Goals as goal

pub loop-i-preserved : goal.loop-i-preserved
unfolding all_chars chars_over char_next
loop-i-preserved c = walked-go c.loop-i.invariant c.loop-i-test.true c.char_at.ensures.char (simp c.in-Some.is) (omega (arith, rw c.in-Some.is at c.char_at.ensures.size))

pub returns-in_default : goal.returns-in_default
unfolding all_chars chars_over char_next
returns-in_default c = walked_stop c.loop-i.invariant c.loop-i-test.true c.char_at.ensures.char (simp c.in_default.is)

pub returns : goal.returns
unfolding all_chars chars_over char_next
returns c = walked_end c.loop-i.invariant c.loop-i-test.false
