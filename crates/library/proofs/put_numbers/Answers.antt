-- `library::put_numbers` meets its contract. The invariant is `Put`.
-- Assumes nothing.
use mathlib.Core.Path.{◌≡◌}
use lib.ListN.{length}
use native.Mathlib.Omega.{arith}
use Rattle.lists.specs.Zeros.{zeros}
use Rattle.library.proofs.Putting.{put-start, put_next, put-end}
use Rattle.library.proofs.put_numbers.Goals as goal

pub loop-i-init : goal.loop-i-init
loop-i-init c = let z : c.fill.new.self ≡ zeros (length c.fill.new.self) = rw c.fill.ensures.len (c.fill.ensures.after (λ y e. e)) in
    put-start _ _ _ (omega arith) z

pub loop-i-preserved : goal.loop-i-preserved
loop-i-preserved c = put_next _ _ _ _ _ c.loop-i.invariant c.loop-i-test.true c.set_number.auto.t c.set_number.ensures

pub shape_of-t : goal.shape_of-t
shape_of-t c = omega (arith, c.loop-i.invariant.same, c.fill.ensures.len)

pub returns : goal.returns
returns c = rw (← c.fill.ensures.len) (put-end _ _ _ _ c.loop-i.invariant c.loop-i-test.false)
