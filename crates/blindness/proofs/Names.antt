-- The number of a name is no other name's. Assumes nothing.
use Prim.Native.Nat.{ℕ, zero, suc, pred, ◌+◌, ◌≤◌, ◌<◌}
use mathlib.Core.Path.{◌≡◌, sym, ◌∙◌}
use mathlib.Core.List.{List, [], ◌∷◌}
use mathlib.Core.Logic.{⊎_elim}
use native.Mathlib.Omega.{arith}
use lib.ListN.{get_or}
use mathlib.Core.Bool.{true}
use Rattle.lists.proofs.Cases.{bool_cases}
use Rattle.slices.specs.Same.{same}
use Rattle.slices.proofs.Sames.{same-equal}
use Rattle.elements.specs.Names.{names, number_in, element_no}

number-in : (n : List ℕ) (ws : List (List ℕ)) (k j : ℕ) → 1 ≤ k → number_in n k ws ≡ k + j → same n (get_or ws j []) ≡ true
unfolding number_in
number-in n [] k j l e = absurd (omega (arith, e, l))
number-in n (w ∷ ws) k zero l e =
    ⊎_elim
    (λ y. y)
    (λ y. let z : number_in n (k + 1) ws ≡ k + 0 = rw y at e in absurd (beyond ws (k + 1) k (omega arith) l (z ∙ (let u : k + 0 ≡ k = omega arith in u))))
    (bool_cases (same n w))
  where
    beyond : (ws : List (List ℕ)) (k m : ℕ) → m < k → 1 ≤ m → number_in n k ws ≡ m → ⊥
    beyond [] k m a b h = omega (arith, h, b)
    beyond (w ∷ ws) k m a b h =
        ⊎_elim
        (λ y. let z : k ≡ m = rw y at h in omega (arith, z, a))
        (λ y. beyond ws (k + 1) m (omega arith) b (rw y at h))
        (bool_cases (same n w))
number-in n (w ∷ ws) k (suc j) l e =
    ⊎_elim
    (λ y. let z : k ≡ k + suc j = rw y at e in absurd (omega (arith, z)))
    (λ y. let z : number_in n (k + 1) ws ≡ k + suc j = rw y at e in number-in n ws (k + 1) j (omega arith) (z ∙ (let u : k + suc j ≡ k + 1 + j = omega arith in u)))
    (bool_cases (same n w))

pub name-one : (n m : List ℕ) → element_no n ≡ element_no m → (element_no m ≡ 0 → ⊥) → n ≡ m
unfolding element_no
name-one n m e some =
    let at = pred (element_no m) in
    let j : element_no m ≡ 1 + at = omega (arith, some) in
    same-equal n (get_or names at []) (number-in n names 1 at (omega arith) (e ∙ j))
    ∙ sym (same-equal m (get_or names at []) (number-in m names 1 at (omega arith) j))
