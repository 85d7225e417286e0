-- A byte of a list that may end anywhere.
use Rattle.std.specs.Prelude.{ℕ, List, get_or}

-- the byte at i, and 0 past the end (0 is no XML character)
unfoldable pub byte : List ℕ → ℕ → ℕ
byte s i = get_or s i 0
