-- "Amount (Qty), collapsed: an optional minus, 1 to 12 digits, optionally a point with 1 to 3 digits. It is stored in thousandths."
use Rattle.std.specs.Prelude.{ℕ, List, [], ◌∷◌, ◌++◌, Bool, true, false, cond, eqb, ℤ, pos, neg_ℤ, take, drop, get_or, Option, Some, None}
use Prim.Native.Char.{code}
use Rattle.slices.specs.Text.{text}
use Rattle.numbers.specs.Digits.{digits, number_from, only_digits}

-- "an optional minus"
unfoldable pub minus : List ℕ → Bool
minus l = eqb (get_or l 0 0) (code "-")

unfoldable pub unsigned : List ℕ → List ℕ
unsigned l = cond (minus l) (drop 1 l) l

-- "optionally a point with 1 to 3 digits"
unfoldable pub fraction_form : List ℕ → Bool
fraction_form [] = true
fraction_form (c ∷ l) = cond (eqb c (code ".")) (only_digits 3 l) false

-- "1 to 12 digits", and then that. No test here looks at which digit stands where.
unfoldable pub unsigned_form : List ℕ → Bool
unsigned_form l = cond (eqb (digits 12 l) 0) false (fraction_form (drop (digits 12 l) l))

unfoldable pub written_amount : List ℕ → Bool
written_amount l = unsigned_form (unsigned l)

-- the digits after the point, filled up to three by zeros
unfoldable pub filled : List ℕ → List ℕ
filled l = take 3 (take (digits 3 l) l ++ text "000")

-- "It is stored in thousandths": the digits before the point and those after it say one number
unfoldable pub thousandths : List ℕ → ℕ
thousandths l = number_from (number_from 0 (take (digits 12 l) l)) (filled (drop 1 (drop (digits 12 l) l)))

unfoldable pub signed : Bool → ℕ → ℤ
signed m n = cond m (neg_ℤ (pos n)) (pos n)

unfoldable pub amount_of : List ℕ → Option ℤ
amount_of l = cond (written_amount l) (Some (signed (minus l) (thousandths (unsigned l)))) None
