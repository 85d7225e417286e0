-- Two lists of bytes, or of characters, that differ in digits alone.
use Rattle.std.specs.Prelude.{ℕ, ◌≡◌, List, [], ◌∷◌, true, ◌⊎◌}
use Rattle.characters.specs.References.{digit}

-- the same, or two digits
abbrev pub Like : ℕ → ℕ → Type 0
Like c d = (c ≡ d) ⊎ ((digit c ≡ true) × (digit d ≡ true))

-- as long, and alike at each place
pub data Alike : List ℕ → List ℕ → Type 0 where
  none : Alike [] []
  next : {c d : ℕ} {x y : List ℕ} → Like c d → Alike x y → Alike (c ∷ x) (d ∷ y)
