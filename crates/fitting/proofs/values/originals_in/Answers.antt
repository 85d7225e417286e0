use mathlib.Core.Path.{sym, ◌∙◌}
use native.Mathlib.Omega.{arith}
use Rattle.fitting.proofs.Judging.{as-given, originals-start, originals-stop, originals-one, originals-none, originals-other, originals-over}
use Rattle.fitting.proofs.values.originals_in.Goals as goal
use Rattle.fitting.proofs.values.originals_in.Goals.{then-role_of-eq-ORIGINAL_ROLE+then-is_given, else-role_of-eq-ORIGINAL_ROLE, else-role_of-eq-ORIGINAL_ROLE-via-then-role_of-eq-ORIGINAL_ROLE+else-is_given, else-role_of-eq-ORIGINAL_ROLE-via-else-role_of-eq-ORIGINAL_ROLE}

pub loop-q-init : goal.loop-q-init
loop-q-init c = originals-start _ _ _ _

pub returns-then-not-asks_v : goal.returns-then-not-asks_v
returns-then-not-asks_v c = originals-stop c.loop-q.invariant c.loop-q-test.true c.asks_v.ensures c.if-not-asks_v.true

pub overflow_mul-next : goal.overflow_mul-next
overflow_mul-next c = omega (arith, c.loop-q.invariant.low, c.requires.rows, c.requires.pair)

pub overflow_add-n : goal.overflow_add-n
overflow_add-n c = omega (arith, c.loop-q.invariant.few)

pub overflow_add-next : goal.overflow_add-next
overflow_add-next c = omega (arith, c.loop-q.invariant.low, c.requires.rows, c.requires.pair)

pub loop-q-preserved : goal.loop-q-preserved
loop-q-preserved c = let r = c.loop-q.invariant in
    elim c.if-role_of-eq-ORIGINAL_ROLE.branch [
      | then-role_of-eq-ORIGINAL_ROLE+then-is_given w ↦
          originals-one r c.loop-q-test.true c.asks_v.ensures c.if-not-asks_v.false c.pairs_of-next.ensures.many c.pairs_of-next.ensures.size
          (sym c.role_of.ensures ∙ w.if-role_of-eq-ORIGINAL_ROLE.true) (as-given c.args.pairs.now c.loop-q.next w.is_given.ensures) w.n-is w.if-is_given.true
      | else-role_of-eq-ORIGINAL_ROLE w ↦
          elim w.else-role_of-eq-ORIGINAL_ROLE.branch [
            | else-role_of-eq-ORIGINAL_ROLE-via-then-role_of-eq-ORIGINAL_ROLE+else-is_given u ↦
                originals-none r c.loop-q-test.true c.asks_v.ensures c.if-not-asks_v.false c.pairs_of-next.ensures.many c.pairs_of-next.ensures.size
                (sym c.role_of.ensures ∙ u.if-role_of-eq-ORIGINAL_ROLE.true) (as-given c.args.pairs.now c.loop-q.next u.is_given.ensures) w.n-is u.if-is_given.false
            | else-role_of-eq-ORIGINAL_ROLE-via-else-role_of-eq-ORIGINAL_ROLE u ↦
                originals-other r c.loop-q-test.true c.asks_v.ensures c.if-not-asks_v.false c.pairs_of-next.ensures.many c.pairs_of-next.ensures.size w.n-is
                (λ z. u.if-role_of-eq-ORIGINAL_ROLE.false (c.role_of.ensures ∙ z))
          ]
    ]

pub returns : goal.returns
returns c = originals-over c.loop-q.invariant c.loop-q-test.false
