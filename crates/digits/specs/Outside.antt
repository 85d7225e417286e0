-- K4: "In demand 3, digits inside a reference no longer count among the readable Qty digits": those between `&` and `;` of it; those beside it do.
use Rattle.std.specs.Prelude.{ℕ, zero, suc, ◌≡◌, List, [], ◌∷◌, Bool, true, false, cond, eqb}
use Prim.Native.Char.{code}
use Rattle.characters.specs.References.{digit}

-- whether a reference is open behind the byte b: `&` opens one, `;` closes it, and any other byte leaves it as it is
unfoldable pub opened : Bool → ℕ → Bool
opened o b = cond (eqb b (code "&")) true (cond (eqb b (code ";")) false o)

-- whether one is open at the place i of a value, before the byte there
unfoldable pub open_at : Bool → List ℕ → ℕ → Bool
open_at o [] i = o
open_at o (b ∷ v) zero = o
open_at o (b ∷ v) (suc i) = open_at (opened o b) v i

-- two values that differ only in digits outside references; o is whether one is open where they begin
pub data AlikeFrom : Bool → List ℕ → List ℕ → Type 0 where
  none : {o : Bool} → AlikeFrom o [] []
  same : {o : Bool} {x y : List ℕ} (b : ℕ) → AlikeFrom (opened o b) x y → AlikeFrom o (b ∷ x) (b ∷ y)
  digits : {c d : ℕ} {x y : List ℕ} → digit c ≡ true → digit d ≡ true → AlikeFrom false x y → AlikeFrom false (c ∷ x) (d ∷ y)
