use mathlib.Core.Path.{sym, ◌∙◌}
use native.Mathlib.Omega.{arith}
use Rattle.fitting.proofs.Judging.{singles-start, singles-stop, singles-period, singles-not, singles-next, singles-over}
use Rattle.fitting.proofs.values.singles_fit.Goals as goal
use Rattle.fitting.proofs.values.singles_fit.Goals.{then-asks_v+else-not-single_fits, else-asks_v+else-role_of-ne-PERIOD_ROLE}

pub loop-q-init : goal.loop-q-init
loop-q-init c = singles-start

pub single_fits-requires : goal.single_fits-requires
single_fits-requires c = omega (arith, c.loop-q.invariant.low, c.requires.rows, c.requires.pair)

pub returns-then-not-single_fits : goal.returns-then-not-single_fits
returns-then-not-single_fits c = singles-not c.loop-q.invariant c.loop-q-test.true c.asks_v.ensures c.if-asks_v.true c.single_fits.ensures c.if-not-single_fits.true

pub overflow_add-next : goal.overflow_add-next
overflow_add-next c = omega (arith, c.loop-q.invariant.low, c.requires.rows, c.requires.pair)

pub returns-then-role_of-ne-PERIOD_ROLE : goal.returns-then-role_of-ne-PERIOD_ROLE
returns-then-role_of-ne-PERIOD_ROLE c = singles-stop c.loop-q.invariant c.loop-q-test.true c.asks_v.ensures c.if-asks_v.false (λ z. c.if-role_of-ne-PERIOD_ROLE.true (c.role_of.ensures ∙ z))

pub loop-q-preserved : goal.loop-q-preserved
loop-q-preserved c = let r = c.loop-q.invariant in
    elim c.if-asks_v.branch [
      | then-asks_v+else-not-single_fits w ↦ singles-next r c.loop-q-test.true c.asks_v.ensures w.if-asks_v.true w.single_fits.ensures w.next-is w.if-not-single_fits.false w.pairs_of-next.ensures.many w.pairs_of-next.ensures.size
      | else-asks_v+else-role_of-ne-PERIOD_ROLE w ↦ singles-period r c.loop-q-test.true c.asks_v.ensures w.next-is w.if-asks_v.false (sym w.role_of.ensures ∙ w.if-role_of-ne-PERIOD_ROLE.false)
    ]

pub returns : goal.returns
returns c = singles-over c.loop-q.invariant c.loop-q-test.false
