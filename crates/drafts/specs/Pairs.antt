-- How the code counts the pairs of a row with a `v` (in the rows of a sheet that is `values_of`), and whether one is there.
use Rattle.std.specs.Prelude.{ℕ, ◌+◌, List, Bool, cond, not, get_or}
use Rattle.states.specs.Attributes.{asks_scheme}
use Rattle.views.specs.Layout.{cell_of}
use Rattle.drafts.specs.Draft.{is_no_pair}

unfoldable pub pairs_of : ℕ → ℕ
pairs_of w = cond (asks_scheme w) 2 1

unfoldable pub has_pair : List ℕ → ℕ → Bool
has_pair pairs k = not (is_no_pair (get_or pairs (cell_of k) 0) (get_or pairs (cell_of k + 1) 0))
