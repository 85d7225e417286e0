-- "The 200 day numbers become 100 bytes, one a year: the March day less 25, times eight, added to the October day less 25." What the code holds in the place of
-- `changes`; only private contracts cite it, so that nothing here has to be believed: proofs/Packed.antt shows that each lookup gives the same day.
use Rattle.std.specs.Prelude.{ℕ, List, [], ◌∷◌}

-- 2000 to 2099, ten years to a line
unfoldable pub packed : List ℕ
packed =
    12 ∷ 3 ∷ 50 ∷ 41 ∷ 30 ∷ 21 ∷ 12 ∷ 3 ∷ 41 ∷ 32 ∷
    30 ∷ 21 ∷ 3 ∷ 50 ∷ 41 ∷ 32 ∷ 21 ∷ 12 ∷ 3 ∷ 50 ∷
    32 ∷ 30 ∷ 21 ∷ 12 ∷ 50 ∷ 41 ∷ 32 ∷ 30 ∷ 12 ∷ 3 ∷
    50 ∷ 41 ∷ 30 ∷ 21 ∷ 12 ∷ 3 ∷ 41 ∷ 32 ∷ 30 ∷ 21 ∷
    3 ∷ 50 ∷ 41 ∷ 32 ∷ 21 ∷ 12 ∷ 3 ∷ 50 ∷ 32 ∷ 30 ∷
    21 ∷ 12 ∷ 50 ∷ 41 ∷ 32 ∷ 30 ∷ 12 ∷ 3 ∷ 50 ∷ 41 ∷
    30 ∷ 21 ∷ 12 ∷ 3 ∷ 41 ∷ 32 ∷ 30 ∷ 21 ∷ 3 ∷ 50 ∷
    41 ∷ 32 ∷ 21 ∷ 12 ∷ 3 ∷ 50 ∷ 32 ∷ 30 ∷ 21 ∷ 12 ∷
    50 ∷ 41 ∷ 32 ∷ 30 ∷ 12 ∷ 3 ∷ 50 ∷ 41 ∷ 30 ∷ 21 ∷
    12 ∷ 3 ∷ 41 ∷ 32 ∷ 30 ∷ 21 ∷ 3 ∷ 50 ∷ 41 ∷ 32 ∷
    []
