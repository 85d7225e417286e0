-- Numbers that count: Version, "1 to 999, no leading zero", is one with at most three digits; Pos, "one to five digits, no leading
-- zero", with at most five.
use Rattle.std.specs.Prelude.{ℕ, List, Bool, false, cond, eqb, ltb, take, get_or, Option, Some, None}
use Prim.Native.Char.{code}
use Rattle.numbers.specs.Digits.{digits, number_from, only_digits}

-- one to `most` digits, "no leading zero"
unfoldable pub number_form : ℕ → List ℕ → Bool
number_form most l = cond (eqb (get_or l 0 0) (code "0")) false (only_digits most l)

-- no number here has more than nine digits
unfoldable pub at_most_nine : ℕ → ℕ
at_most_nine most = cond (ltb most 9) most 9

unfoldable pub number_within : ℕ → List ℕ → Option ℕ
number_within most l = cond (number_form most l) (Some (number_from 0 (take (digits most l) l))) None

unfoldable pub number_of : List ℕ → ℕ → Option ℕ
number_of l most = number_within (at_most_nine most) l
