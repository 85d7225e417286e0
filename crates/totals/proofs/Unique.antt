-- The contract of `lumintayag_totals` leaves one possible answer and one possible content of each lent slice. Assumes nothing.
use Prim.Native.Nat.{ℕ}
use mathlib.Core.Path.{◌≡◌}
use mathlib.Core.List.{List}
use lib.IntN.{ℤ}
use Rattle.lists.proofs.Unique.{one}
use Rattle.totals.specs.Rules.{Handed}
use Rattle.totals.specs.Totals.{PermittedTotals}

pub lumintayag-totals-one : (g : Handed) (n m : ℕ) {r r' : ℕ} {t t' s s' : List ℤ} → PermittedTotals g n m r t s → PermittedTotals g n m r' t' s'
    → (r ≡ r') × (t ≡ t') × (s ≡ s')
lumintayag-totals-one g n m x y = (one x.refuses y.refuses, one x.each y.each, one x.all y.all)
