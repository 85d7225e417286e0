-- How the code adds: each amount is taken as 10^15 more than it is, so that it is no less than 0, and a sum is held in two words. Only contracts of private
-- functions cite what stands here.
use Rattle.std.specs.Prelude.{ℕ, zero, suc, ◌+◌, ◌-◌, ◌*◌, ◌≤◌, ◌<◌, ◌≡◌, List, true, ℤ, pos, negsuc, length, get_or}
use Rattle.totals.specs.declared.sums.Words.{Words}
use Rattle.totals.specs.Rules.{most_quarters, too_large, size_allowed, end_row, own_of}
use Rattle.totals.specs.Totals.{standing}

unfoldable pub shifted_of : ℤ → ℕ
shifted_of (pos n) = too_large + n
shifted_of (negsuc n) = too_large - suc n

-- the sum of f at n numbers from i on
unfoldable pub added_from : (ℕ → ℕ) → ℕ → ℕ → ℕ
added_from f i zero = 0
added_from f i (suc n) = f i + added_from f (suc i) n

unfoldable pub shifted_at : List ℕ → List ℤ → ℕ → ℕ
shifted_at positions amounts k = shifted_of (standing positions amounts (length positions) k)

-- the number that two words hold
abbrev pub held_in : Words → ℕ
held_in w = 1000 * w.whole + w.rest

pub record Holds (w : Words) (x : ℕ) : Type 0 where
  pub is : held_in w ≡ x
  pub rest : w.rest < 1000

-- 10^15 thousandths as a whole number
abbrev pub shift : ℕ
shift = 1000000000000

-- how much two words hold at most after n quarter hours
abbrev pub most_held : ℕ → ℕ
most_held n = 2 * too_large * n

-- what the rows of a series that is not refused have: the Pos rise from 1 to at most `last`, which is no later than 366 days, and no amount is too large
pub record Rising (positions : List ℕ) (amounts : List ℤ) (last : ℕ) : Type 0 where
  pub same : length amounts ≡ length positions
  pub some : 1 ≤ length positions
  pub first : get_or positions 0 0 ≡ 1
  pub rise : (j : ℕ) → j + 1 < length positions → get_or positions j 0 < get_or positions (j + 1) 0
  pub within : (j : ℕ) → j < length positions → get_or positions j 0 ≤ last
  pub most : last ≤ most_quarters
  pub sizes : (j : ℕ) → j < length positions → size_allowed (get_or amounts j (pos 0)) ≡ true

-- the rows of series i that are added up to `last`
pub record Adds (series positions : List ℕ) (amounts : List ℤ) (i last : ℕ) : Type 0 where
  pub in_positions : end_row series i ≤ length positions
  pub in_amounts : end_row series i ≤ length amounts
  pub rows : Rising (own_of series i positions) (own_of series i amounts) last
