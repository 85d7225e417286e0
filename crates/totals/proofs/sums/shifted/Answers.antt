use Rattle.totals.specs.Shifted.{shifted_of}
use mathlib.Core.Path.{◌≡◌, sym, ap, ◌∙◌}
use Prim.Native.Nat.{suc, ◌+◌, ◌-◌}
use native.Mathlib.Omega.{arith}
use borrow.Author.Rules.{sfits_of}
use mir.Facts.{to_z-of_z}
use Rattle.lists.proofs.Signs.{from_zero, below-zero, back}
use Rattle.totals.specs.Rules.{too_large}
use Rattle.totals.proofs.Shifts.{from-shifted}
use Rattle.totals.proofs.sums.shifted.Goals as goal

pub overflow_cast-result : goal.overflow_cast-result
overflow_cast-result c = let f = c.ranges.a in rw (to_z-of_z f) (from_zero _ f (rw (to_z-of_z f) at c.if-a-ge0.true))

pub overflow_add-result : goal.overflow_add-result
overflow_add-result c = let f = c.ranges.a in rw (to_z-of_z f) (from-shifted _ f (rw (to_z-of_z f) at c.if-a-ge0.true)).0

pub returns-then-a-ge0 : goal.returns-then-a-ge0
returns-then-a-ge0 c = let f = c.ranges.a in rw (to_z-of_z f) (from-shifted _ f (rw (to_z-of_z f) at c.if-a-ge0.true)).1

pub overflow_sub-size : goal.overflow_sub-size
overflow_sub-size c = let f = c.ranges.a in let k = below-zero _ f (rw (to_z-of_z f) at c.if-a-ge0.false) in rw (to_z-of_z f, k.1) (sfits_of k.2)

pub overflow_cast-n : goal.overflow_cast-n
overflow_cast-n c = let f = c.ranges.a in
    let k = below-zero _ f (rw (to_z-of_z f) at c.if-a-ge0.false) in
    let h = k.2 in
    rw (to_z-of_z f, k.1, back k.0 h) (tt, record { fits = omega arith })

pub overflow_add-n : goal.overflow_add-n
overflow_add-n c = let f = c.ranges.a in
    let k = below-zero _ f (rw (to_z-of_z f) at c.if-a-ge0.false) in
    let h = k.2 in
    rw (to_z-of_z f, k.1, back k.0 h) (record { fits = omega arith })

pub returns-then-n-le-TOO_LARGE : goal.returns-then-n-le-TOO_LARGE
unfolding shifted_of
returns-then-n-le-TOO_LARGE c = let f = c.ranges.a in
    let k = below-zero _ f (rw (to_z-of_z f) at c.if-a-ge0.false) in
    let e : too_large - (k.0 + 1) ≡ too_large - suc k.0 = omega arith in
    rw (to_z-of_z f, k.1, back k.0 k.2) (e ∙ sym (ap shifted_of k.3))

pub returns-else-n-le-TOO_LARGE : goal.returns-else-n-le-TOO_LARGE
unfolding shifted_of
returns-else-n-le-TOO_LARGE c = let f = c.ranges.a in
    let k = below-zero _ f (rw (to_z-of_z f) at c.if-a-ge0.false) in
    let t = rw (to_z-of_z f, k.1, back k.0 k.2) at c.if-n-le-TOO_LARGE.false in
    let e : 0 ≡ too_large - suc k.0 = omega (arith, t) in
    e ∙ sym (ap shifted_of k.3)
