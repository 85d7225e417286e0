-- Two outcomes that a contract permits are equal. Assumes nothing.
use Prim.Native.Nat.{ℕ}
use mathlib.Core.Path.{◌≡◌}
use mathlib.Core.List.{List}
use Rattle.trims.specs.Trim.{lead_of, trimmed_of}
use Rattle.lists.proofs.Unique.{one}

pub leading-spaces-one : (v : List ℕ) {r r' : ℕ} → r ≡ lead_of v → r' ≡ lead_of v → r ≡ r'
leading-spaces-one v = one

pub without-spaces-one : (v : List ℕ) {r r' : List ℕ} → r ≡ trimmed_of v → r' ≡ trimmed_of v → r ≡ r'
without-spaces-one v = one

pub trimmed-one : (v : List ℕ) {r r' : List ℕ} → r ≡ trimmed_of v → r' ≡ trimmed_of v → r ≡ r'
trimmed-one v = one
