-- Check numbers of tables.
use Rattle.std.specs.Prelude.{ℕ, ◌+◌, ◌-◌, ◌*◌, ◌%◌, List, [], ◌∷◌, ℤ, pos, negsuc}

-- the check number after a cell c, being h before it
unfoldable pub next : ℕ → ℕ → ℕ
next h c = (h * 31 + c) % 4294967296

-- that of the cells, from h on
unfoldable pub sum_from : ℕ → List ℕ → ℕ
sum_from h [] = h
sum_from h (c ∷ t) = sum_from (next h c) t

-- an amount modulo 2^32; `negsuc k` is -1 - k
unfoldable pub residue_of : ℤ → ℕ
residue_of (pos k) = k % 4294967296
residue_of (negsuc k) = 4294967295 - k % 4294967296
