-- The contracts of `lumintayag_views` and `row_at` leave one possible answer and one possible content of each lent slice. Assumes nothing.
use Prim.Native.Nat.{ℕ}
use mathlib.Core.Path.{◌≡◌}
use mathlib.Core.List.{List}
use lib.ListN.{get_or}
use Rattle.lists.proofs.Unique.{one}
use Rattle.views.specs.Views.{Sight, PermittedViews}

pub lumintayag-views-one : (o : Sight) (k : ℕ) {r r' : ℕ} {t t' a a' : List ℕ} → PermittedViews o k r t a → PermittedViews o k r' t' a' → (r ≡ r') × (t ≡ t') × (a ≡ a')
lumintayag-views-one o k x y = (one x.refuses y.refuses, one x.shows y.shows, one x.puts y.puts)

pub row-at-one : (rows : List ℕ) (row : ℕ) {r r' : ℕ} → r ≡ get_or rows row 0 → r' ≡ get_or rows row 0 → r ≡ r'
row-at-one rows row = one
