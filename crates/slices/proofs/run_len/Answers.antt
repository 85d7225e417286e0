use mathlib.Core.Path.{◌≡◌}
use lib.ListN.{length}
use native.Mathlib.Omega.{arith}
use Rattle.slices.proofs.Runs.{ran-start, ran-stop, ran-more, ran-end}
use Rattle.slices.proofs.run_len.Goals as goal

pub loop-i-init : goal.loop-i-init
loop-i-init g c = ran-start _ _

pub returns-then-not-passes-clause-run : goal.returns-then-not-passes-clause-run
returns-then-not-passes-clause-run g c = ran-stop _ _ _ c.loop-i.invariant c.loop-i-test.true c.passes.result c.passes.ensures c.if-not-passes.true

pub loop-i-preserved : goal.loop-i-preserved
loop-i-preserved g c = ran-more _ _ _ c.loop-i.invariant c.loop-i-test.true c.passes.result c.passes.ensures c.if-not-passes.false

pub returns-clause-run : goal.returns-clause-run
returns-clause-run g c =
    let h = c.loop-i.invariant in
    let q : c.loop-i.i ≡ length c.args.s.now = omega (arith, c.loop-i-test.false, h.inside) in
    rw (← q) (ran-end _ _ _ h (omega (arith, c.loop-i-test.false)))
