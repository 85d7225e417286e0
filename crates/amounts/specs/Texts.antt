-- "Amounts are shortest: no leading zeros but one before a point, no trailing fraction zeros, no minus at zero."
use Rattle.std.specs.Prelude.{ℕ, suc, ◌/◌, ◌%◌, List, [], ◌∷◌, ◌++◌, cond, eqb, ℤ, pos, negsuc}
use Prim.Native.Char.{code}
use Rattle.wholes.specs.Whole.{numeral, whole_text}

-- the digits after the point of f thousandths, f below 1000: "no trailing fraction zeros"
unfoldable pub decimals : ℕ → List ℕ
decimals f =
    cond (eqb f 0) []
    (numeral (f / 100) ∷ cond (eqb (f % 100) 0) []
    (numeral (f / 10 % 10) ∷ cond (eqb (f % 10) 0) []
    (numeral (f % 10) ∷ [])))

-- a point, where digits follow it
unfoldable pub pointed : List ℕ → List ℕ
pointed [] = []
pointed (c ∷ l) = code "." ∷ c ∷ l

unfoldable pub fraction_text : ℕ → List ℕ
fraction_text f = pointed (decimals f)

-- n thousandths: "no leading zeros but one before a point"
unfoldable pub unsigned_text : ℕ → List ℕ
unsigned_text n = whole_text (n / 1000) ++ fraction_text (n % 1000)

-- "no minus at zero": below it alone
unfoldable pub amount_text : ℤ → List ℕ
amount_text (pos n) = unsigned_text n
amount_text (negsuc n) = code "-" ∷ unsigned_text (suc n)
