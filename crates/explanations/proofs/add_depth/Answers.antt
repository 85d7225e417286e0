-- `explanations::add_depth` meets its contract: an arm for each row of the table, and the last for any other number.
-- Assumes nothing.
use borrow.Author.Tests.{lt-ltb}
use native.Mathlib.Omega.{arith}
use Rattle.explanations.specs.Explanation.{depth_line}
use Rattle.explanations.proofs.add_depth.Goals as goal

pub returns-in-0 : goal.returns-in-0
unfolding depth_line
returns-in-0 c = record { next = rw c.in-0.is c.add_text.ensures.next; text = rw c.in-0.is c.add_text.ensures.text }

pub returns-in-1 : goal.returns-in-1
unfolding depth_line
returns-in-1 c = record { next = rw c.in-1.is c.add_text-in-1.ensures.next; text = rw c.in-1.is c.add_text-in-1.ensures.text }

pub returns-in-2 : goal.returns-in-2
unfolding depth_line
returns-in-2 c = record { next = rw c.in-2.is c.add_text-in-2.ensures.next; text = rw c.in-2.is c.add_text-in-2.ensures.text }

pub returns-in-3 : goal.returns-in-3
unfolding depth_line
returns-in-3 c = record { next = rw c.in-3.is c.add_text-in-3.ensures.next; text = rw c.in-3.is c.add_text-in-3.ensures.text }

pub returns-in-4 : goal.returns-in-4
unfolding depth_line
returns-in-4 c = record { next = rw c.in-4.is c.add_text-in-4.ensures.next; text = rw c.in-4.is c.add_text-in-4.ensures.text }

pub returns-in-5 : goal.returns-in-5
unfolding depth_line
returns-in-5 c = record { next = rw c.in-5.is c.add_text-in-5.ensures.next; text = rw c.in-5.is c.add_text-in-5.ensures.text }

pub returns-in-6 : goal.returns-in-6
unfolding depth_line
returns-in-6 c = record { next = rw c.in-6.is c.add_text-in-6.ensures.next; text = rw c.in-6.is c.add_text-in-6.ensures.text }

pub returns-in-7 : goal.returns-in-7
unfolding depth_line
returns-in-7 c = record { next = rw c.in-7.is c.add_text-in-7.ensures.next; text = rw c.in-7.is c.add_text-in-7.ensures.text }

pub returns-in-8 : goal.returns-in-8
unfolding depth_line
returns-in-8 c = record { next = rw c.in-8.is c.add_text-in-8.ensures.next; text = rw c.in-8.is c.add_text-in-8.ensures.text }

pub returns-in-9 : goal.returns-in-9
unfolding depth_line
returns-in-9 c = record { next = rw c.in-9.is c.add_text-in-9.ensures.next; text = rw c.in-9.is c.add_text-in-9.ensures.text }

pub returns-in-10 : goal.returns-in-10
unfolding depth_line
returns-in-10 c = record { next = rw c.in-10.is c.add_text-in-10.ensures.next; text = rw c.in-10.is c.add_text-in-10.ensures.text }

pub returns-in-11 : goal.returns-in-11
unfolding depth_line
returns-in-11 c = record { next = rw c.in-11.is c.add_text-in-11.ensures.next; text = rw c.in-11.is c.add_text-in-11.ensures.text }

pub returns-in-12 : goal.returns-in-12
unfolding depth_line
returns-in-12 c = record { next = rw c.in-12.is c.add_text-in-12.ensures.next; text = rw c.in-12.is c.add_text-in-12.ensures.text }

pub returns-in_default : goal.returns-in_default
unfolding depth_line
returns-in_default c = record { next = rw (lt-ltb 12 c.args.depth (omega (arith, c.in_default))) c.add_around.ensures.next; text = rw (lt-ltb 12 c.args.depth (omega (arith, c.in_default))) c.add_around.ensures.text }
