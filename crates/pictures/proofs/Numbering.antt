-- A loop that reads a number out of what is said: what is left to show after each character. Assumes nothing.
use Prim.Native.Nat.{ℕ, zero, suc, ◌+◌, ◌*◌, ◌-◌, ◌%◌, ◌<◌, ◌≤◌}
use mathlib.Core.Path.{◌≡◌}
use mathlib.Core.List.{List, [], ◌∷◌}
use native.Mathlib.Omega.{arith}
use lib.ListN.{take, drop}
use lib.Seq.{take-nil, drop-nil}
use Rattle.pictures.specs.Number.{shown_number}

-- `skip` characters are still to pass, and then `left` digits; l is what is said from here on
module _ (skip left shown : ℕ) {l : List ℕ} where
  pub number-end : l ≡ [] → shown ≡ shown_number shown (take left (drop skip l))
  unfolding shown_number
  number-end e = rw (e, drop-nil, take-nil)

  module _ {c : ℕ} {rest : List ℕ} (e : l ≡ c ∷ rest) where
    pub number-skip : 0 < skip → shown_number shown (take left (drop (skip - 1) rest)) ≡ shown_number shown (take left (drop skip l))
    number-skip h = rw e (past skip h)
      where
        past : (s : ℕ) → 0 < s → shown_number shown (take left (drop (s - 1) rest)) ≡ shown_number shown (take left (drop s (c ∷ rest)))
        past zero p = absurd (omega arith)
        past (suc s) p = let z : suc s - 1 ≡ s = omega arith in rw z

    pub number-digit : skip ≤ 0 → 0 < left
        → shown_number ((shown * 10 + c % 16) % 10000) (take (left - 1) (drop skip rest)) ≡ shown_number shown (take left (drop skip l))
    unfolding shown_number
    number-digit p h = let z : skip ≡ 0 = omega arith in rw (e, z) (digit left h)
      where
        digit : (n : ℕ) → 0 < n → shown_number ((shown * 10 + c % 16) % 10000) (take (n - 1) rest) ≡ shown_number shown (take n (c ∷ rest))
        digit zero q = absurd (omega arith)
        digit (suc n) q = let z : suc n - 1 ≡ n = omega arith in rw z

    pub number-full : left ≤ 0 → shown ≡ shown_number shown (take left (drop skip l))
    unfolding shown_number
    number-full q = let z : left ≡ 0 = omega arith in rw z
