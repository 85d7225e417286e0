-- What "shortest" says of a written amount, whoever wrote it.
use Rattle.std.specs.Prelude.{ℕ, ◌-◌, ◌≡◌, List, true, length, take, drop, get_or}
use Prim.Native.Char.{code}
use Rattle.numbers.specs.Digits.{digits}
use Rattle.numbers.specs.Amount.{minus, unsigned, thousandths}

-- the digits before the point
unfoldable pub whole_digits : List ℕ → List ℕ
whole_digits t = take (digits 12 (unsigned t)) (unsigned t)

-- the digits after it
unfoldable pub fraction_digits : List ℕ → List ℕ
fraction_digits t = drop 1 (drop (digits 12 (unsigned t)) (unsigned t))

-- "no leading zeros but one before a point": a zero at the front is the one digit there, also where no point follows, since an amount has a digit;
-- "no trailing fraction zeros": the last digit after the point is none;
-- "no minus at zero"
pub record Shortest (t : List ℕ) : Type 0 where
  pub leading : get_or (whole_digits t) 0 0 ≡ code "0" → length (whole_digits t) ≡ 1
  pub trailing : get_or (fraction_digits t) (length (fraction_digits t) - 1) 0 ≡ code "0" → ⊥
  pub sign : minus t ≡ true → thousandths (unsigned t) ≡ 0 → ⊥
