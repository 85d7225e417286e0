use Prim.Native.Nat.{ℕ, ◌-◌}
use mathlib.Core.Path.{ap, ◌∙◌}
use native.Mathlib.Omega.{arith}
use Rattle.characters.proofs.Units.{unwrapped-use}
use Rattle.fitting.proofs.Judging.{counted_start, counted-next, counted-over}
use Rattle.fitting.proofs.values.count_literal.Goals as goal

pub loop-i-init : goal.loop-i-init
loop-i-init c = counted_start _

pub overflow_add-i : goal.overflow_add-i
overflow_add-i c = let u = ap (λ (x : ℕ × ℕ). x.1) c.unwrap_or-k.ensures ∙ unwrapped-use c.char_at.result in omega arith

pub overflow_add-n : goal.overflow_add-n
overflow_add-n c = omega (arith, c.loop-i.invariant.few)

pub loop-i-smaller : goal.loop-i-smaller
loop-i-smaller c = let u = ap (λ (x : ℕ × ℕ). x.1) c.unwrap_or-k.ensures ∙ unwrapped-use c.char_at.result in omega arith

pub loop-i-preserved : goal.loop-i-preserved
loop-i-preserved c =
    counted-next c.loop-i.invariant c.loop-i-test.true c.rest.ensures.list c.char_at.ensures.char (ap (λ (x : ℕ × ℕ). x.1) c.unwrap_or-k.ensures) c.char_at.ensures.size.0

pub returns : goal.returns
returns c = counted-over c.loop-i.invariant c.loop-i-test.false
