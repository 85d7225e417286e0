-- Two outcomes that a contract permits are equal. A contract that is an equation has this by the law `one`, and one that also tells
-- what a lent buffer holds at exit by `both`: the `Unique` of every crate cites them. Here for `clear_bytes`.
-- Assumes nothing.
use mathlib.Core.Path.{◌≡◌, sym, ◌∙◌}
use mathlib.Core.List.{List}
use Prim.Native.Nat.{ℕ}
use lib.ListN.{length}
use Rattle.lists.specs.Zeros.{zeros}

pub one : {A : Type 0} {x r r' : A} → r ≡ x → r' ≡ x → r ≡ r'
one e e' = e ∙ sym e'

pub both : {A B : Type 0} {x r r' : A} {y b b' : B} → (r ≡ x) × (b ≡ y) → (r' ≡ x) × (b' ≡ y) → (r ≡ r') × (b ≡ b')
both e e' = (one e.0 e'.0, one e.1 e'.1)

pub clear-bytes-one : (before : List ℕ) {b b' : List ℕ} → b ≡ zeros (length before) → b' ≡ zeros (length before) → b ≡ b'
clear-bytes-one before = one
