-- A comment, after its `<!--`.
use Rattle.std.specs.Prelude.{ℕ, ◌+◌, List, cond, take, eqb, Option, Some, None}
use Rattle.slices.specs.Bytes.{byte}
use Rattle.slices.specs.Same.{first_at}
use Rattle.slices.specs.Text.{text}
use Rattle.characters.specs.Says.{all_chars}

-- XML characters, and "`--` inside a comment" makes it unreadable: the first `--` closes it
unfoldable pub comment_to : List ℕ → ℕ → Option ℕ
comment_to s n = cond (eqb (byte s (n + 2)) 0x3E) (cond (all_chars (take n s)) (Some (n + 3)) None) None

unfoldable pub comment : List ℕ → Option ℕ
comment s = comment_to s (first_at (text "--") s)
