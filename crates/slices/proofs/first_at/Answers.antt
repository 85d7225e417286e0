use mathlib.Core.Path.{◌≡◌}
use lib.ListN.{length}
use native.Mathlib.Omega.{arith}
use Rattle.slices.proofs.Walks.{walked_start, walked-go, walked_stop, walked_end}
use Rattle.slices.specs.Same.{seek, here, first_at}
use Rattle.slices.proofs.first_at.Goals as goal

pub loop-i-init : goal.loop-i-init
loop-i-init c = walked_start

pub returns-then-begins_with : goal.returns-then-begins_with
unfolding first_at here seek
returns-then-begins_with c = record { place = walked_stop c.loop-i.invariant c.loop-i-test.true c.begins_with.ensures (simp c.if-begins_with.true); size = omega arith }

pub loop-i-preserved : goal.loop-i-preserved
unfolding first_at here seek
loop-i-preserved c = walked-go c.loop-i.invariant c.loop-i-test.true c.begins_with.ensures (simp c.if-begins_with.false) (omega arith)

pub returns : goal.returns
unfolding first_at here seek
returns c = let q : c.loop-i.i ≡ length c.args.s.now = omega arith in
    record { place = rw (← q) (walked_end c.loop-i.invariant c.loop-i-test.false); size = omega arith }
