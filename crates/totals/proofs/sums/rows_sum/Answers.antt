use Prim.Native.Nat.{◌<◌}
use native.Mathlib.Omega.{arith}
use borrow.Author.Rules.{rules, sfits_of}
use lib.ListN.{length}
use mir.Facts.{to_z-of_z}
use Rattle.totals.proofs.Shifts.{shifted-less}
use Rattle.totals.proofs.Standing.{from_one, from-later, added-start, added_next, added-end, added-held}
use Rattle.totals.proofs.sums.rows_sum.Goals as goal

pub loop-j-init : goal.loop-j-init
loop-j-init c = added-start _ _ _ c.requires

pub stands_from-p-requires : goal.stands_from-p-requires
stands_from-p-requires c = c.requires.most

pub stands_from-next-requires : goal.stands_from-next-requires
stands_from-next-requires c = c.requires.most

pub overflow_sub-n : goal.overflow_sub-n
overflow_sub-n c = let l = from-later _ _ _ c.requires _ c.loop-j-test.true in omega (arith, l.0, c.stands_from-next.ensures, c.stands_from-p.ensures)

pub offset_bounds-amounts-j : goal.offset_bounds-amounts-j
offset_bounds-amounts-j c = let e = c.requires.same in let h : c.loop-j.j < length c.args.amounts.now = omega (arith, e, c.loop-j-test.true) in search rules

pub bounds-amounts-j : goal.bounds-amounts-j
bounds-amounts-j c = omega (arith, c.requires.same, c.loop-j-test.true)

pub with_times-w-requires : goal.with_times-w-requires
with_times-w-requires c = let v = c.loop-j.invariant in
    let t = c.loop-j-test.true in
    let l = from-later _ _ _ c.requires _ t in
    let e = rw (to_z-of_z (sfits_of c.a-1.given)) at c.shifted.ensures in
    record { held = added-held _ _ _ c.requires _ _ v; rest = v.rest; amount = rw e (shifted-less _ (c.requires.sizes _ t)).1; times = omega (arith, l.1, c.requires.most, c.stands_from-next.ensures, c.stands_from-p.ensures, from_one _ _ _ c.requires _ t) }

pub loop-j-preserved : goal.loop-j-preserved
loop-j-preserved c = let e = rw (to_z-of_z (sfits_of c.a-1.given)) at c.shifted.ensures in
    let o = rw (e, c.stands_from-next.ensures, c.stands_from-p.ensures) at c.with_times-w.ensures in
    added_next _ _ _ c.requires _ _ _ c.loop-j.invariant c.loop-j-test.true o

pub returns : goal.returns
returns c = added-end _ _ _ c.requires _ _ c.loop-j.invariant c.loop-j-test.false
