use borrow.Author.Tests.{lt-ltb}
use mathlib.Core.Path.{◌∙◌}
use Rattle.numbers.proofs.Forms.{first-over, first_char, sign-over, sign-minus, sign-none}
use Rattle.numbers.proofs.minus_len.Goals as goal

pub returns-in_default : goal.returns-in_default
returns-in_default c = let it = sign-over (first-over c.args.v.now c.said_at.ensures.said c.in_default.is) in record { sign = it.0; left = it.1 }

pub returns-then-c-eq45 : goal.returns-then-c-eq45
returns-then-c-eq45 c = let s = rw c.in-Some.is at c.said_at.ensures.size in
    let e = first_char c.args.v.now c.said_at.ensures.said c.in-Some.is s.0 in
    let m = sign-minus e c.if-c-eq45.true in
    record { sign = lt-ltb _ _ s.0 ∙ m.0; left = m.1 }

pub returns-else-c-eq45 : goal.returns-else-c-eq45
returns-else-c-eq45 c = let it = let s = rw c.in-Some.is at c.said_at.ensures.size in
    sign-none (first_char c.args.v.now c.said_at.ensures.said c.in-Some.is s.0) c.if-c-eq45.false in record { sign = it.0; left = it.1 }
