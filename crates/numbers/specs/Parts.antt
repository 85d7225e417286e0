-- The parts of an amount, as the functions of the code answer them.
use Rattle.std.specs.Prelude.{ℕ, List, Bool, cond, drop, Option, Some, None, ℤ}
use Rattle.numbers.specs.Digits.{number_from, only_digits}
use Rattle.numbers.specs.Amount.{fraction_form, unsigned_form, filled, thousandths, signed}

-- after a point
unfoldable pub point_of : List ℕ → ℕ → Option ℕ
point_of l whole = cond (only_digits 3 l) (Some (number_from whole (filled l))) None

-- after the digits before the point
unfoldable pub fraction_of : List ℕ → ℕ → Option ℕ
fraction_of l whole = cond (fraction_form l) (Some (number_from whole (filled (drop 1 l)))) None

-- after the sign
unfoldable pub unsigned_of : List ℕ → Option ℕ
unsigned_of l = cond (unsigned_form l) (Some (thousandths l)) None

unfoldable pub signed_of : Bool → Option ℕ → Option ℤ
signed_of m (Some n) = Some (signed m n)
signed_of m None = None
