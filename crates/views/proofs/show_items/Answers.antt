use mathlib.Core.Path.{ap}
use native.Mathlib.Omega.{arith}
use lib.ListN.{length, length-drop}
use Rattle.views.proofs.Walk.{shows-start, shows-next, shows-end}
use Rattle.views.proofs.Inside.{item-inside}
use Rattle.views.proofs.show_items.Goals as goal

pub loop-at-init : goal.loop-at-init
loop-at-init c = shows-start _ _ _ _

pub show_item-n-requires : goal.show_item-n-requires
show_item-n-requires c = let h = c.loop-at-test.true in let l = ap length c.rest-s.ensures.list in let d = length-drop c.loop-at.at c.args.doc.now in let n = c.loop-at.invariant.low in
    record { rows = c.requires.rows; few = omega (arith, n, h, c.requires.short); inside = item-inside _ _ _ c.item_at-item.ensures.item (omega (arith, c.item_at-item.ensures.size.1, l, d, h, c.requires.short)) }

pub overflow_add-at : goal.overflow_add-at
overflow_add-at c = let h = c.loop-at-test.true in let l = ap length c.rest-s.ensures.list in let d = length-drop c.loop-at.at c.args.doc.now in omega (arith, c.item_len-at.ensures, c.item_at-item.ensures.size.0, c.item_at-item.ensures.size.1, l, d, h, c.requires.short)

pub loop-at-smaller : goal.loop-at-smaller
loop-at-smaller c = let h = c.loop-at-test.true in let l = ap length c.rest-s.ensures.list in let d = length-drop c.loop-at.at c.args.doc.now in omega (arith, c.item_len-at.ensures, c.item_at-item.ensures.size.0, c.item_at-item.ensures.size.1, l, d, h, c.requires.short)

pub loop-at-preserved : goal.loop-at-preserved
loop-at-preserved c = rw c.item_len-at.ensures (shows-next _ _ _ _ c.loop-at.invariant c.loop-at-test.true c.rest-s.ensures.list c.item_at-item.ensures.item c.item_at-item.ensures.size.0 c.show_item-n.ensures.counts c.show_item-n.ensures.shows c.show_item-n.auto.t)

pub shape_of-t : goal.shape_of-t
shape_of-t c = c.loop-at.invariant.same

pub returns : goal.returns
returns c = shows-end _ _ _ _ c.loop-at.invariant c.loop-at-test.false
