use mathlib.Core.Path.{sym, ◌∙◌}
use native.Mathlib.Omega.{arith}
use Rattle.characters.proofs.Saying.{said-char, said-over, said-end}
use Rattle.numbers.proofs.Reading.{all, read-start, read-full, read-over, read-other, read_more, read_fits, digit-range}
use Rattle.numbers.proofs.digits_of.Goals as goal

pub loop-end-init : goal.loop-end-init
loop-end-init c = read-start

pub returns-then-most-count : goal.returns-then-most-count
returns-then-most-count c = let it = let inv = c.loop-end.invariant in all (read-full inv c.if-most-count.true) inv in record { count = it.0; value = it.1.0; left = it.1.1.0; size = it.1.1.1 }

pub overflow_mul-value : goal.overflow_mul-value
overflow_mul-value c = let f = read_fits c.loop-end.invariant c.requires in omega arith

pub overflow_sub-value : goal.overflow_sub-value
overflow_sub-value c = let d = digit-range _ (sym c.is_digit.ensures ∙ c.if-is_digit.true) in omega arith

pub overflow_cast-value : goal.overflow_cast-value
overflow_cast-value c = let d = digit-range _ (sym c.is_digit.ensures ∙ c.if-is_digit.true) in omega arith

pub overflow_add-value : goal.overflow_add-value
overflow_add-value c = let d = digit-range _ (sym c.is_digit.ensures ∙ c.if-is_digit.true) in let f = read_fits c.loop-end.invariant c.requires in omega arith

pub overflow_add-end : goal.overflow_add-end
overflow_add-end c = omega (arith, rw c.in-Some.is at c.said_at.ensures.size)

pub overflow_add-count : goal.overflow_add-count
overflow_add-count c = omega (arith, c.loop-end.invariant.within)

pub loop-end-smaller : goal.loop-end-smaller
loop-end-smaller c = omega (arith, rw c.in-Some.is at c.said_at.ensures.size)

pub loop-end-preserved : goal.loop-end-preserved
loop-end-preserved c = let s = rw c.in-Some.is at c.said_at.ensures.size in
    let e = said-char c.args.v.now c.loop-end.end c.said_at.ensures.said c.loop-end-test.true c.in-Some.is s.0 in
    read_more c.loop-end.invariant c.if-most-count.false e (sym c.is_digit.ensures ∙ c.if-is_digit.true)

pub returns-else-is_digit : goal.returns-else-is_digit
returns-else-is_digit c = let it = let s = rw c.in-Some.is at c.said_at.ensures.size in
    let e = said-char c.args.v.now c.loop-end.end c.said_at.ensures.said c.loop-end-test.true c.in-Some.is s.0 in
    let inv = c.loop-end.invariant in
    all (read-other inv e (sym c.is_digit.ensures ∙ c.if-is_digit.false)) inv in record { count = it.0; value = it.1.0; left = it.1.1.0; size = it.1.1.1 }

pub returns-in_default : goal.returns-in_default
returns-in_default c = let it = let inv = c.loop-end.invariant in
    all (read-over inv (said-over c.args.v.now c.loop-end.end c.said_at.ensures.said c.in_default.is)) inv in record { count = it.0; value = it.1.0; left = it.1.1.0; size = it.1.1.1 }

pub returns : goal.returns
returns c = let it = let inv = c.loop-end.invariant in
    all (read-over inv (said-end c.args.v.now c.loop-end.end c.loop-end-test.false)) inv in record { count = it.0; value = it.1.0; left = it.1.1.0; size = it.1.1.1 }
