-- `explanations::add_kind` meets its contract: an arm for each row of the table, and the last for any other number.
-- Assumes nothing.
use borrow.Author.Tests.{lt-ltb}
use native.Mathlib.Omega.{arith}
use Rattle.explanations.specs.Explanation.{kind_line}
use Rattle.explanations.proofs.add_kind.Goals as goal

pub returns-in-0 : goal.returns-in-0
unfolding kind_line
returns-in-0 c = record { next = rw c.in-0.is c.add_text.ensures.next; text = rw c.in-0.is c.add_text.ensures.text }

pub returns-in-1 : goal.returns-in-1
unfolding kind_line
returns-in-1 c = record { next = rw c.in-1.is c.add_text-in-1.ensures.next; text = rw c.in-1.is c.add_text-in-1.ensures.text }

pub returns-in-2 : goal.returns-in-2
unfolding kind_line
returns-in-2 c = record { next = rw c.in-2.is c.add_text-in-2.ensures.next; text = rw c.in-2.is c.add_text-in-2.ensures.text }

pub returns-in-3 : goal.returns-in-3
unfolding kind_line
returns-in-3 c = record { next = rw c.in-3.is c.add_text-in-3.ensures.next; text = rw c.in-3.is c.add_text-in-3.ensures.text }

pub returns-in_default : goal.returns-in_default
unfolding kind_line
returns-in_default c = record { next = rw (lt-ltb 3 c.args.kind (omega (arith, c.in_default))) c.add_around.ensures.next; text = rw (lt-ltb 3 c.args.kind (omega (arith, c.in_default))) c.add_around.ensures.text }
