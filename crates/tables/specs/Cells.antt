-- "On every refusal by the document reader, all cells of the three tables are 0."
use Rattle.std.specs.Prelude.{ℕ, List, ℤ, pos, replicate}

-- n amounts that are 0
abbrev pub no_amounts : ℕ → List ℤ
no_amounts n = replicate n (pos 0)
