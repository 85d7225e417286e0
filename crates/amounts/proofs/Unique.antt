-- Two outcomes that a contract permits are equal: the answer, and what the lent bytes hold at exit. Assumes nothing.
use Prim.Native.Nat.{ℕ}
use mathlib.Core.Path.{◌≡◌}
use mathlib.Core.List.{List}
use lib.IntN.{ℤ}
use lib.ListN.{length}
use lib.Seq.{sets}
use Rattle.lists.proofs.Unique.{both}
use Rattle.wholes.specs.Whole.{whole_text}
use Rattle.amounts.specs.Texts.{amount_text}

pub put-amount-one : (free : List ℕ) (amount : ℤ) {r r' : ℕ} {b b' : List ℕ} → (r ≡ length (amount_text amount)) × (b ≡ sets free 0 (amount_text amount))
    → (r' ≡ length (amount_text amount)) × (b' ≡ sets free 0 (amount_text amount)) → (r ≡ r') × (b ≡ b')
put-amount-one free amount = both

pub put-position-one : (free : List ℕ) (n : ℕ) {r r' : ℕ} {b b' : List ℕ} → (r ≡ length (whole_text n)) × (b ≡ sets free 0 (whole_text n))
    → (r' ≡ length (whole_text n)) × (b' ≡ sets free 0 (whole_text n)) → (r ≡ r') × (b ≡ b')
put-position-one free n = both
