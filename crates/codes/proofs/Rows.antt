-- A loop over codes in a row: the first word, and the words after it. Assumes nothing.
use Prim.Native.Nat.{ℕ, zero, suc, ◌+◌, ◌-◌, ◌≤◌, ◌<◌}
use mathlib.Core.Path.{◌≡◌, refl, ap}
use mathlib.Core.List.{List, [], ◌∷◌}
use mathlib.Core.Bool.{Bool, true, false}
use native.Mathlib.Omega.{arith}
use native.Mathlib.Numerals.{add-one}
use lib.ListN.{length, take, drop, drop_of_length-le, length-drop, get_or-eq_default}
use lib.Seq.{drop-drop}
use Rattle.slices.specs.Same.{same}
use Rattle.lists.proofs.Loans.{rest_part}
use Rattle.codes.specs.Lists.{lists, codes_of, listed}
use Rattle.codes.specs.Words.{words_after, words}

skip : (n k : ℕ) (s : List ℕ) → words_after n k s ≡ words n (drop k s)
unfolding words_after
skip n zero s = refl
skip n (suc k) [] = refl
skip n (suc k) (b ∷ s) = skip n k s

words-next : (n : ℕ) (s : List ℕ) → 0 < length s → words n s ≡ take n s ∷ words n (drop (suc n) s)
unfolding words_after
words-next n [] p = absurd (omega arith)
words-next n (b ∷ s) p = ap (λ (ws : List (List ℕ)). take n (b ∷ s) ∷ ws) (skip n n s)

-- w is the first n bytes of `&s[i..]`, t whether the value l is that word
module _ (n : ℕ) (s l : List ℕ) (i : ℕ) (h : i < length s) {w : List ℕ} (c : w ≡ take n (take (length s - i) (drop i s))) {t : Bool} (q : t ≡ same w l) where
  here : words n (drop i s) ≡ w ∷ words n (drop (i + (n + 1)) s)
  here =
      let p : 0 < length (drop i s) = rw length-drop (omega arith) in
      rw (add-one n, ← drop-drop (suc n) i s, c, rest_part i s) (words-next n (drop i s) p)

  pub among-yes : t ≡ true → true ≡ listed (words n (drop i s)) l
  unfolding listed
  among-yes y = rw (here, ← q, y)

  pub among-no : t ≡ false → listed (words n (drop (i + (n + 1)) s)) l ≡ listed (words n (drop i s)) l
  unfolding listed
  among-no y = rw (here, ← q, y)

pub among-end : (n : ℕ) (s l : List ℕ) (i : ℕ) → length s ≤ i → false ≡ listed (words n (drop i s)) l
unfolding listed words_after
among-end n s l i h = rw (drop_of_length-le s h)

-- a number that no list has
pub none-listed : (k : ℕ) (l : List ℕ) → length lists ≤ k → false ≡ listed (codes_of k) l
unfolding codes_of listed
none-listed k l h = rw (get_or-eq_default lists [] h)
