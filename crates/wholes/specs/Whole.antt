-- A whole number in decimal digits.
use Rattle.std.specs.Prelude.{ℕ, zero, suc, ◌+◌, ◌/◌, ◌%◌, List, [], ◌∷◌, ◌++◌, cond, ltb}
use Prim.Native.Char.{code}

-- the character of a digit, d below ten
abbrev pub numeral : ℕ → ℕ
numeral d = code "0" + d

-- the digits of n, highest first, without zeros in front: at most k + 1 of them
unfoldable pub whole_in : ℕ → ℕ → List ℕ
whole_in zero n = numeral n ∷ []
whole_in (suc k) n = cond (ltb n 10) (numeral n ∷ []) (whole_in k (n / 10) ++ numeral (n % 10) ∷ [])

-- all of them: n has no more than n + 1
abbrev pub whole_text : ℕ → List ℕ
whole_text n = whole_in n n
