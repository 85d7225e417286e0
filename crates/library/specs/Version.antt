-- The version of the exported functions, as one number.
use Rattle.std.specs.Prelude.{ℕ}

-- a.b.c is 10000 a + 100 b + c, and this is 0.8.0; library/lumintayag.h has the same number
abbrev pub library_version : ℕ
library_version = 800
