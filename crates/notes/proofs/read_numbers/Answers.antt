-- `notes::read_numbers` meets its contract. The invariant is `Rd`.
-- Assumes nothing.
use mathlib.Core.Path.{sym, ap, ◌∙◌}
use native.Mathlib.Omega.{arith}
use Rattle.lists.proofs.Loans.{rest_part}
use Rattle.notes.specs.Reader.{first_number}
use Rattle.notes.proofs.Reading.{rd-start, rd_next, rd-bad, whole-end, more-end}
use Rattle.notes.proofs.read_numbers.Goals as goal

pub loop-i-init : goal.loop-i-init
loop-i-init g c = rd-start _ _

pub slice_bounds-get_number-count : goal.slice_bounds-get_number-count
slice_bounds-get_number-count g c = omega (arith, c.loop-i.invariant.most)

pub slice_bounds-get_number-start : goal.slice_bounds-get_number-start
slice_bounds-get_number-start g c = omega (arith, c.loop-i.invariant.most)

pub returns-in_err-v : goal.returns-in_err-v
returns-in_err-v g c = let e = c.get_number.ensures ∙ ap (first_number 3) (rest_part c.loop-i.at c.args.s.now) in
    c.from_residual.ensures ∙ rd-bad _ _ _ _ _ c.loop-i.invariant c.loop-i-test.true (sym e ∙ c.in_err-v.was)

pub overflow_add-at : goal.overflow_add-at
overflow_add-at g c = let e = c.get_number.ensures ∙ ap (first_number 3) (rest_part c.loop-i.at c.args.s.now) in
    omega (arith, (rd_next _ _ _ _ _ c.loop-i.invariant _ _ c.loop-i-test.true (sym e ∙ c.in_ok-v.was)).most, c.type_inv)

pub loop-i-preserved : goal.loop-i-preserved
loop-i-preserved g c = let e = c.get_number.ensures ∙ ap (first_number 3) (rest_part c.loop-i.at c.args.s.now) in
    rd_next _ _ _ _ _ c.loop-i.invariant _ _ c.loop-i-test.true (sym e ∙ c.in_ok-v.was)

pub returns-then-at-s : goal.returns-then-at-s
returns-then-at-s g c = whole-end _ _ _ _ _ c.loop-i.invariant c.loop-i-test.false c.if-at-s.true

pub returns-else-at-s : goal.returns-else-at-s
returns-else-at-s g c = more-end _ _ _ _ _ c.loop-i.invariant c.loop-i-test.false c.if-at-s.false
