-- A part of a slice.
use Rattle.std.specs.Prelude.{ℕ, List, take, drop}

-- the n bytes from at on
unfoldable pub part_of : List ℕ → ℕ → ℕ → List ℕ
part_of s at n = take n (drop at s)
