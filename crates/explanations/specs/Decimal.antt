-- A number in decimal digits.
use Rattle.std.specs.Prelude.{ℕ, List, ◌++◌}
use Rattle.wholes.specs.Whole.{whole_in}

-- a u32 has at most ten
abbrev pub decimal : ℕ → List ℕ
decimal n = whole_in 9 n

-- n in decimal digits between two texts
unfoldable pub around : List ℕ → ℕ → List ℕ → List ℕ
around before n after = before ++ (decimal n ++ after)
