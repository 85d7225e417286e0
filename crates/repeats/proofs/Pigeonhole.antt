-- The different names of a list of attributes: no more than its attributes, fewer where a name is there twice; and each step up in the
-- order, to a name of the list, finds one more of them. Assumes nothing.
use Prim.Native.Nat.{ℕ, suc, ◌+◌, ◌≤◌, ◌<◌}
use mathlib.Core.Path.{◌≡◌, sym, ap, ◌∙◌}
use mathlib.Core.List.{List, [], ◌∷◌}
use mathlib.Core.Bool.{true, false}
use mathlib.Core.Logic.{◌⊎◌, inr, ⊎_elim}
use native.Mathlib.Omega.{arith}
use native.Mathlib.Nat.{le_refl}
use lib.ListN.{length}
use Rattle.lists.proofs.Cases.{bool_cases, never}
use Rattle.slices.specs.Same.{same}
use Rattle.slices.proofs.Sames.{same-equal}
use Rattle.tags.specs.Tail.{Attr, named, twice}
use Rattle.repeats.specs.Order.{less, up_to}
use Rattle.repeats.proofs.Order.{less-self, less-trans}

-- what one attribute more comes to: its name is there again; it is past x; it is one more
module _ (x : List ℕ) (a : Attr) (more : List Attr) where
  up-again : named a.name more ≡ true → up_to x (a ∷ more) ≡ up_to x more
  unfolding up_to
  up-again t = rw t

  up-past : named a.name more ≡ false → less x a.name ≡ true → up_to x (a ∷ more) ≡ up_to x more
  unfolding up_to
  up-past n t = rw (n, t)

  up-new : named a.name more ≡ false → less x a.name ≡ false → up_to x (a ∷ more) ≡ suc (up_to x more)
  unfolding up_to
  up-new n f = rw (n, f)

  up-cases : (named a.name more ≡ true) ⊎ (named a.name more ≡ false) → (up_to x more ≤ up_to x (a ∷ more)) × (up_to x (a ∷ more) ≤ suc (up_to x more))
  up-cases =
      ⊎_elim
      (λ t. omega (arith, up-again t))
      (λ n. ⊎_elim (λ t. omega (arith, up-past n t)) (λ f. omega (arith, up-new n f)) (bool_cases (less x a.name)))

pub up-most : (x : List ℕ) (l : List Attr) → up_to x l ≤ length l
unfolding up_to
up-most x [] = le_refl 0
up-most x (a ∷ more) = omega (arith, up-most x more, up-cases x a more (bool_cases (named a.name more)))

up-fewer : (x : List ℕ) (l : List Attr) → twice l ≡ true → up_to x l < length l
unfolding twice
up-fewer x [] p = never p
up-fewer x (a ∷ more) p =
    ⊎_elim
    (λ y. omega (arith, up-most x more, up-again x a more y))
    (λ n. omega (arith, up-fewer x more (rw n at p), up-cases x a more (inr n)))
    (bool_cases (named a.name more))

-- as many different names as attributes: none is there twice
pub up-all : (x : List ℕ) (l : List Attr) → length l ≤ up_to x l → false ≡ twice l
up-all x l h = ⊎_elim (λ y. absurd (omega (arith, up-fewer x l y))) (λ n. sym n) (bool_cases (twice l))

module _ (x y : List ℕ) (less-xy : less x y ≡ true) where
  -- one attribute more keeps what y has before x
  kept : (d : ℕ) (a : Attr) (more : List Attr) → up_to x more + d ≤ up_to y more → up_to x (a ∷ more) + d ≤ up_to y (a ∷ more)
  kept d a more h =
      ⊎_elim
      (λ t. omega (arith, up-again x a more t, up-again y a more t))
      (λ n.
      ⊎_elim
      (λ t. omega (arith, up-past y a more n t, up-past x a more n (less-trans x y a.name less-xy t)))
      (λ f. omega (arith, up-new y a more n f, up-cases x a more (inr n)))
      (bool_cases (less y a.name)))
      (bool_cases (named a.name more))

  up-grows : (l : List Attr) → up_to x l + 0 ≤ up_to y l
  unfolding up_to
  up-grows [] = omega arith
  up-grows (a ∷ more) = kept 0 a more (up-grows more)

  pub up_step : (l : List Attr) → named y l ≡ true → up_to x l + 1 ≤ up_to y l
  unfolding named
  up_step [] p = never p
  up_step (a ∷ more) p =
      ⊎_elim
      (λ e.
      let q = same-equal y a.name e in
      ⊎_elim
      (λ t. kept 1 a more (up_step more (ap (λ (z : List ℕ). named z more) q ∙ t)))
      (λ n.
      omega (arith, up-grows more, up-past x a more n (ap (less x) (sym q) ∙ less-xy), up-new y a more n (ap (less y) (sym q) ∙ less-self y)))
      (bool_cases (named a.name more)))
      (λ d. kept 1 a more (up_step more (rw d at p)))
      (bool_cases (same y a.name))
