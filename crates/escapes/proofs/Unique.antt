-- Two outcomes that a contract permits are equal: the answer, and what the lent buffer holds at exit.
-- Assumes nothing.
use Prim.Native.Nat.{ℕ, ◌+◌, min}
use mathlib.Core.Path.{◌≡◌}
use mathlib.Core.List.{List}
use lib.ListN.{length}
use lib.Seq.{sets}
use Rattle.lists.proofs.Unique.{both}
use Rattle.escapes.specs.Escaped.{escaped}
use Rattle.escapes.specs.Spelled.{unescaped}

pub put-escaped-one : (free t : List ℕ) {r r' : ℕ} {b b' : List ℕ} → (r ≡ min (length (escaped t)) (length free + 1)) × (b ≡ sets free 0 (escaped t))
    → (r' ≡ min (length (escaped t)) (length free + 1)) × (b' ≡ sets free 0 (escaped t)) → (r ≡ r') × (b ≡ b')
put-escaped-one free t = both

pub put-unescaped-one : (free v : List ℕ) {r r' : ℕ} {b b' : List ℕ} → (r ≡ length (unescaped v)) × (b ≡ sets free 0 (unescaped v))
    → (r' ≡ length (unescaped v)) × (b' ≡ sets free 0 (unescaped v)) → (r ≡ r') × (b ≡ b')
put-unescaped-one free v = both
