use mathlib.Core.Path.{sym, ap, ◌∙◌}
use native.Mathlib.Omega.{arith}
use lib.ListN.{length, length-drop}
use Rattle.states.specs.Step.{step_told}
use Rattle.reader.proofs.Ran.{ran-start, ran-next, ran-pass, ran-rows, ran-stop, ran-unread, ran-end}
use Rattle.reader.proofs.read_items.Goals as goal

pub loop-at-init : goal.loop-at-init
loop-at-init c = ran-start _ _ _ c.every_row-rows.ensures.rows c.begin-st.ensures

pub overflow_cast-p : goal.overflow_cast-p
overflow_cast-p c = let k = (ran-unread c.loop-at.invariant c.loop-at-test.true c.rest-s.ensures.list c.item_at-item.ensures.item c.item_at-item.ensures.size.0 c.in-Unreadable.is).0 in let h = c.loop-at-test.true in omega (arith, k, h, c.requires)

pub refused_at-requires : goal.refused_at-requires
refused_at-requires c = ran-rows c.loop-at.invariant c.rows_of.ensures

pub shape_of-series-in-Unreadable : goal.shape_of-series-in-Unreadable
shape_of-series-in-Unreadable c = c.loop-at.invariant.ser-same

pub shape_of-positions-in-Unreadable : goal.shape_of-positions-in-Unreadable
shape_of-positions-in-Unreadable c = c.loop-at.invariant.pos-same

pub shape_of-amounts-in-Unreadable : goal.shape_of-amounts-in-Unreadable
shape_of-amounts-in-Unreadable c = c.loop-at.invariant.ams-same

pub returns-in-Unreadable : goal.returns-in-Unreadable
returns-in-Unreadable c = rw c.refused_at.ensures (ran-unread c.loop-at.invariant c.loop-at-test.true c.rest-s.ensures.list c.item_at-item.ensures.item c.item_at-item.ensures.size.0 c.in-Unreadable.is).1

pub overflow_add-at : goal.overflow_add-at
overflow_add-at c = let h = c.loop-at-test.true in omega (arith, c.item_len-at.ensures, h, c.requires, c.item_at-item.ensures.size.0, c.item_at-item.ensures.size.1, c.item_at-item.ensures.size.2, ap length c.rest-s.ensures.list, length-drop c.loop-at.at c.args.doc.now)

pub loop-at-smaller-then-is_passed : goal.loop-at-smaller-then-is_passed
loop-at-smaller-then-is_passed c = let h = c.loop-at-test.true in omega (arith, c.item_len-at.ensures, h, c.requires, c.item_at-item.ensures.size.0, c.item_at-item.ensures.size.1, c.item_at-item.ensures.size.2, ap length c.rest-s.ensures.list, length-drop c.loop-at.at c.args.doc.now)

pub loop-at-preserved-then-is_passed : goal.loop-at-preserved-then-is_passed
loop-at-preserved-then-is_passed c = rw c.item_len-at.ensures (ran-pass c.loop-at.invariant c.loop-at-test.true c.rest-s.ensures.list c.item_at-item.ensures.item c.item_at-item.ensures.size.0 (sym c.is_passed.ensures ∙ c.if-is_passed.true))

pub enter-requires : goal.enter-requires
enter-requires c = let h = c.loop-at-test.true in omega (arith, h, c.requires, c.item_at-item.ensures.size.0, c.item_at-item.ensures.size.1, c.item_at-item.ensures.size.2, ap length c.rest-s.ensures.list, length-drop c.loop-at.at c.args.doc.now)

pub overflow_cast-at : goal.overflow_cast-at
overflow_cast-at c = let h = c.loop-at-test.true in omega (arith, h, c.requires)

pub refused_at-requires-in-Err : goal.refused_at-requires-in-Err
refused_at-requires-in-Err c = ran-rows c.loop-at.invariant c.rows_of-in-Err.ensures

pub shape_of-series-in-Err : goal.shape_of-series-in-Err
shape_of-series-in-Err c = c.loop-at.invariant.ser-same

pub shape_of-positions-in-Err : goal.shape_of-positions-in-Err
shape_of-positions-in-Err c = c.loop-at.invariant.pos-same

pub shape_of-amounts-in-Err : goal.shape_of-amounts-in-Err
shape_of-amounts-in-Err c = c.loop-at.invariant.ams-same

pub returns-in-Err : goal.returns-in-Err
returns-in-Err c = rw c.refused_at-in-Err.ensures (ran-stop c.loop-at.invariant c.loop-at-test.true c.rest-s.ensures.list c.item_at-item.ensures.item c.item_at-item.ensures.size.0 c.step_in.ensures (ap step_told c.in-Err.is))

pub overflow_add-at-in-loop-at : goal.overflow_add-at-in-loop-at
overflow_add-at-in-loop-at c = let h = c.loop-at-test.true in omega (arith, c.item_len-at-in-loop-at.ensures, h, c.requires, c.item_at-item.ensures.size.0, c.item_at-item.ensures.size.1, c.item_at-item.ensures.size.2, ap length c.rest-s.ensures.list, length-drop c.loop-at.at c.args.doc.now)

pub loop-at-smaller : goal.loop-at-smaller
loop-at-smaller c = let h = c.loop-at-test.true in omega (arith, c.item_len-at-in-loop-at.ensures, h, c.requires, c.item_at-item.ensures.size.0, c.item_at-item.ensures.size.1, c.item_at-item.ensures.size.2, ap length c.rest-s.ensures.list, length-drop c.loop-at.at c.args.doc.now)

pub loop-at-preserved : goal.loop-at-preserved
loop-at-preserved c = rw c.item_len-at-in-loop-at.ensures (ran-next c.loop-at.invariant c.loop-at-test.true c.rest-s.ensures.list c.item_at-item.ensures.item c.item_at-item.ensures.size.0 c.step_in.ensures (ap step_told c.in-Ok.is) c.enter.auto.series c.enter.auto.positions c.enter.auto.amounts c.enter.ensures)

pub overflow_cast-doc : goal.overflow_cast-doc
overflow_cast-doc c = omega (arith, c.requires)

pub ended_at-requires : goal.ended_at-requires
ended_at-requires c = ran-rows c.loop-at.invariant c.rows_of-2.ensures

pub shape_of-series : goal.shape_of-series
shape_of-series c = c.loop-at.invariant.ser-same

pub shape_of-positions : goal.shape_of-positions
shape_of-positions c = c.loop-at.invariant.pos-same

pub shape_of-amounts : goal.shape_of-amounts
shape_of-amounts c = c.loop-at.invariant.ams-same

pub returns : goal.returns
returns c = ran-end c.loop-at.invariant c.loop-at-test.false (rw c.rows_of-2.ensures at c.ended_at.ensures)
