-- Bytes that are 0.
use Rattle.std.specs.Prelude.{ℕ, ◌-◌, List, ◌++◌, length, replicate}

-- n bytes that are 0
abbrev pub zeros : ℕ → List ℕ
zeros n = replicate n 0

-- w, "and the bytes after it are 0", up to n bytes
abbrev pub padded : ℕ → List ℕ → List ℕ
padded n w = w ++ zeros (n - length w)
