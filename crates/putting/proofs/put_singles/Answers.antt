-- `putting::put_singles` meets its contract. The invariant is `Going`.
-- Assumes nothing.
use native.Mathlib.Omega.{arith}
use Rattle.putting.proofs.Singles.{going_start, going-over, going-value, going-period, going-out}
use Rattle.putting.proofs.put_singles.Goals as goal
use Rattle.putting.proofs.put_singles.Goals.{then-asks_v, else-asks_v+then-role_of-eq-PERIOD_ROLE}

pub loop-q-init : goal.loop-q-init
loop-q-init c = going_start c.args.out.now c.args.at c.args.text.now c.args.pairs.now c.args.rows.now c.args.row c.args.k c.requires.place c.requires.pair

pub put_single-end-requires : goal.put_single-end-requires
put_single-end-requires c = let g = c.loop-q.invariant in
    record { place = g.left.low; pair = omega (arith, g.few, c.loop-q-test.true, c.requires.rows) }

pub overflow_add-next : goal.overflow_add-next
overflow_add-next c = omega (arith, c.loop-q.invariant.few, c.loop-q-test.true, c.requires.rows, c.pairs_of-next.ensures.size)

pub put_bytes-end-requires : goal.put_bytes-end-requires
put_bytes-end-requires c = c.loop-q.invariant.left.low

pub shape_of-out-else-role_of-eq-PERIOD_ROLE : goal.shape_of-out-else-role_of-eq-PERIOD_ROLE
shape_of-out-else-role_of-eq-PERIOD_ROLE c = c.loop-q.invariant.left.same

pub returns-else-role_of-eq-PERIOD_ROLE : goal.returns-else-role_of-eq-PERIOD_ROLE
returns-else-role_of-eq-PERIOD_ROLE c = let it = going-out c.loop-q.invariant c.loop-q-test.true c.asks_v.ensures c.if-asks_v.false c.role_of.ensures c.if-role_of-eq-PERIOD_ROLE.false in record { answer = it.0; buffer = it.1 }

pub loop-q-preserved : goal.loop-q-preserved
loop-q-preserved c = let g = c.loop-q.invariant in
    let h = c.loop-q-test.true in
    elim c.if-asks_v.branch [
      | then-asks_v w ↦
          going-value g h c.asks_v.ensures w.if-asks_v.true (w.put_single-end.ensures.answer, w.put_single-end.ensures.buffer) (w.pairs_of-next.ensures.many, w.pairs_of-next.ensures.size) w.out-is w.end-is w.next-is
      | else-asks_v+then-role_of-eq-PERIOD_ROLE w ↦
          going-period g h c.asks_v.ensures w.if-asks_v.false w.role_of.ensures w.if-role_of-eq-PERIOD_ROLE.true (w.put_bytes-end.ensures.answer, w.put_bytes-end.ensures.buffer) w.out-is w.end-is w.next-is
    ]

pub shape_of-out : goal.shape_of-out
shape_of-out c = c.loop-q.invariant.left.same

pub returns : goal.returns
returns c = let it = going-over c.loop-q.invariant c.loop-q-test.false in record { answer = it.0; buffer = it.1 }
