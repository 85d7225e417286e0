-- Two outcomes that a contract permits are equal.
-- Assumes nothing.
use Prim.Native.Nat.{ℕ}
use mathlib.Core.Path.{◌≡◌, sym, ◌∙◌}
use Rattle.refusals.specs.Refusals.{number}
use Rattle.refusals.specs.declared.Refusal.{Refusal}

pub refusal-number-one : (x : Refusal) {r r' : ℕ} → r ≡ number x → r' ≡ number x → r ≡ r'
refusal-number-one x p q = p ∙ sym q
