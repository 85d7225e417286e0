-- A search for a name in a table depends only on the entries that are as long as the name.
-- Assumes nothing.
use Prim.Native.Nat.{ℕ, ◌+◌}
use mathlib.Core.Path.{◌≡◌, refl, sym, ap, ◌∙◌}
use mathlib.Core.List.{List, [], ◌∷◌}
use mathlib.Core.Bool.{Bool, true, false, cond}
use mathlib.Core.Logic.{⊎_elim}
use lib.ListN.{length}
use lib.Dec.{T, eqb}
use Rattle.lists.proofs.Cases.{eqb-cases}
use Rattle.slices.specs.Same.{same}
use Rattle.slices.proofs.Sames.{same-comm, sames-long}
use Rattle.elements.specs.Names.{names, number_in, element_no}

-- the search over the entries of length l alone, each with the number that it has in the whole table
unfoldable pub long_in : List ℕ → ℕ → ℕ → List (List ℕ) → ℕ
long_in n l k [] = 0
long_in n l k (w ∷ ws) = let rest = long_in n l (k + 1) ws in cond (eqb (length w) l) (cond (same w n) k rest) rest

same_length : (n : List ℕ) (k : ℕ) (ws : List (List ℕ)) → number_in n k ws ≡ long_in n (length n) k ws
unfolding number_in long_in
same_length n k [] = refl
same_length n k (w ∷ ws) =
    let ih = same_length n (k + 1) ws in
    ⊎_elim
    (λ y. simp (y.1, same-comm n w, ih))
    (λ y. simp (y.1, ← sames-long n w (λ e. y.0 (sym e)), ih))
    (eqb-cases (length w) (length n))

-- the number of a name of length l
pub as_long : (n : List ℕ) (l : ℕ) → length n ≡ l → element_no n ≡ long_in n l 1 names
unfolding element_no
as_long n l e = same_length n 1 names ∙ ap (λ (m : ℕ). long_in n m 1 names) e

-- each entry's length passes the test p
abbrev pub fit : (ℕ → Bool) → List (List ℕ) → Bool
fit p [] = true
fit p (w ∷ ws) = cond (p (length w)) (fit p ws) false

-- a length that no entry has
no_length : (p : ℕ → Bool) (n : List ℕ) (l k : ℕ) (ws : List (List ℕ)) → T (fit p ws) → p l ≡ false → long_in n l k ws ≡ 0
unfolding long_in
no_length p n l k [] t f = refl
no_length p n l k (w ∷ ws) t f = go (p (length w)) refl t (λ (u : T (fit p ws)). no_length p n l (k + 1) ws u f)
  where
    go : (b : Bool) → p (length w) ≡ b → T (cond b (fit p ws) false) → (T (fit p ws) → long_in n l (k + 1) ws ≡ 0) → long_in n l k (w ∷ ws) ≡ 0
    go true q u ih =
        ⊎_elim
        (λ y. let z : true ≡ false = sym q ∙ ap p y.0 ∙ f in cc)
        (λ y. simp (y.1, ih u))
        (eqb-cases (length w) l)
    go false q u ih = absurd u

pub no_number : (p : ℕ → Bool) (n : List ℕ) → T (fit p names) → p (length n) ≡ false → element_no n ≡ 0
no_number p n t f = as_long n (length n) refl ∙ no_length p n (length n) 1 names t f
