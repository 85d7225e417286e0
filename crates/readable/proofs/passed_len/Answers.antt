use native.Mathlib.Omega.{arith}
use Rattle.slices.proofs.Walks.{walked_start, walked-go, walked_stop, walked_end}
use Rattle.readable.specs.Readable.{pass_next, pass_over, passed_bytes}
use Rattle.readable.proofs.passed_len.Goals as goal

pub loop-i-init : goal.loop-i-init
loop-i-init c = (walked_start, omega arith)

pub overflow_add-i : goal.overflow_add-i
overflow_add-i c = omega (arith, rw c.in-Start.is at c.item_at.ensures.size)

pub loop-i-smaller-in-Start : goal.loop-i-smaller-in-Start
loop-i-smaller-in-Start c = omega (arith, rw c.in-Start.is at c.item_at.ensures.size)

pub loop-i-preserved-in-Start : goal.loop-i-preserved-in-Start
unfolding passed_bytes pass_over pass_next
loop-i-preserved-in-Start c = (walked-go c.loop-i.invariant.0 c.loop-i-test.true c.item_at.ensures.item (simp c.in-Start.is) (omega (arith, rw c.in-Start.is at c.item_at.ensures.size)), omega (arith, rw c.in-Start.is at c.item_at.ensures.size))

pub overflow_add-i-in-Empty : goal.overflow_add-i-in-Empty
overflow_add-i-in-Empty c = omega (arith, rw c.in-Empty.is at c.item_at.ensures.size)

pub loop-i-smaller-in-Empty : goal.loop-i-smaller-in-Empty
loop-i-smaller-in-Empty c = omega (arith, rw c.in-Empty.is at c.item_at.ensures.size)

pub loop-i-preserved-in-Empty : goal.loop-i-preserved-in-Empty
unfolding passed_bytes pass_over pass_next
loop-i-preserved-in-Empty c = (walked-go c.loop-i.invariant.0 c.loop-i-test.true c.item_at.ensures.item (simp c.in-Empty.is) (omega (arith, rw c.in-Empty.is at c.item_at.ensures.size)), omega (arith, rw c.in-Empty.is at c.item_at.ensures.size))

pub overflow_add-i-in-End : goal.overflow_add-i-in-End
overflow_add-i-in-End c = omega (arith, rw c.in-End.is at c.item_at.ensures.size)

pub loop-i-smaller-in-End : goal.loop-i-smaller-in-End
loop-i-smaller-in-End c = omega (arith, rw c.in-End.is at c.item_at.ensures.size)

pub loop-i-preserved-in-End : goal.loop-i-preserved-in-End
unfolding passed_bytes pass_over pass_next
loop-i-preserved-in-End c = (walked-go c.loop-i.invariant.0 c.loop-i-test.true c.item_at.ensures.item (simp c.in-End.is) (omega (arith, rw c.in-End.is at c.item_at.ensures.size)), omega (arith, rw c.in-End.is at c.item_at.ensures.size))

pub overflow_add-i-in-Text : goal.overflow_add-i-in-Text
overflow_add-i-in-Text c = omega (arith, rw c.in-Text.is at c.item_at.ensures.size)

pub loop-i-smaller-in-Text : goal.loop-i-smaller-in-Text
loop-i-smaller-in-Text c = omega (arith, rw c.in-Text.is at c.item_at.ensures.size)

pub loop-i-preserved-in-Text : goal.loop-i-preserved-in-Text
unfolding passed_bytes pass_over pass_next
loop-i-preserved-in-Text c = (walked-go c.loop-i.invariant.0 c.loop-i-test.true c.item_at.ensures.item (simp c.in-Text.is) (omega (arith, rw c.in-Text.is at c.item_at.ensures.size)), omega (arith, rw c.in-Text.is at c.item_at.ensures.size))

pub overflow_add-i-in-Comment : goal.overflow_add-i-in-Comment
overflow_add-i-in-Comment c = omega (arith, rw c.in-Comment.is at c.item_at.ensures.size)

pub loop-i-smaller : goal.loop-i-smaller
loop-i-smaller c = omega (arith, rw c.in-Comment.is at c.item_at.ensures.size)

pub loop-i-preserved : goal.loop-i-preserved
unfolding passed_bytes pass_over pass_next
loop-i-preserved c = (walked-go c.loop-i.invariant.0 c.loop-i-test.true c.item_at.ensures.item (simp c.in-Comment.is) (omega (arith, rw c.in-Comment.is at c.item_at.ensures.size)), omega (arith, rw c.in-Comment.is at c.item_at.ensures.size))

pub returns-in-Unreadable : goal.returns-in-Unreadable
unfolding passed_bytes pass_over pass_next
returns-in-Unreadable c = record { len = walked_stop c.loop-i.invariant.0 c.loop-i-test.true c.item_at.ensures.item (simp c.in-Unreadable.is); size = omega (arith, rw c.in-Unreadable.is at c.item_at.ensures.size) }

pub returns : goal.returns
unfolding passed_bytes pass_over pass_next
returns c = record { len = walked_end c.loop-i.invariant.0 c.loop-i-test.false; size = omega arith }
