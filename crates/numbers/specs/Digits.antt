-- Digits at the front of a list of characters, and the number that they say.
use Rattle.std.specs.Prelude.{ℕ, zero, suc, ◌+◌, ◌-◌, ◌*◌, List, [], ◌∷◌, Bool, true, false, cond, eqb, drop}
use Prim.Native.Char.{code}
use Rattle.characters.specs.References.{digit}

-- how many digits stand at the front, counted up to k
unfoldable pub digits : ℕ → List ℕ → ℕ
digits zero l = 0
digits (suc k) [] = 0
digits (suc k) (c ∷ l) = cond (digit c) (suc (digits k l)) 0

-- the number that digits say, after others that say n
unfoldable pub number_from : ℕ → List ℕ → ℕ
number_from n [] = n
number_from n (c ∷ l) = number_from (n * 10 + (c - code "0")) l

unfoldable pub nothing_left : List ℕ → Bool
nothing_left [] = true
nothing_left (c ∷ l) = false

-- one digit or more, up to k, and nothing after them
unfoldable pub only_digits : ℕ → List ℕ → Bool
only_digits k l = cond (eqb (digits k l) 0) false (nothing_left (drop (digits k l) l))
