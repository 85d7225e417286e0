-- Two lists that are the same are equal, and `==` tells which are. Assumes nothing.
use Prim.Native.Nat.{ℕ, suc}
use mathlib.Core.Path.{◌≡◌, refl, sym, ap}
use mathlib.Core.List.{List, [], ◌∷◌}
use mathlib.Core.Bool.{Bool, true, false, cond, ◌&&◌}
use mathlib.Core.Logic.{⊎_elim}
use lib.ListN.{length}
use lib.Dec.{eqb}
use lib.Pointwise.{pointwise}
use borrow.Author.Tests.{eq-eqb, ne_eqb}
use Rattle.lists.proofs.Cases.{eqb-cases, never}
use Rattle.slices.specs.Same.{same}

pub same_self : (s : List ℕ) → same s s ≡ true
unfolding same
same_self [] = refl
same_self (a ∷ s) = rw (eq-eqb a a refl) (same_self s)

pub same-equal : (x y : List ℕ) → same x y ≡ true → x ≡ y
unfolding same
same-equal [] [] p = refl
same-equal [] (b ∷ y) p = never p
same-equal (a ∷ x) [] p = never p
same-equal (a ∷ x) (b ∷ y) p =
    ⊎_elim
    (λ e. let q = same-equal x y (rw e.1 at p) in let f = e.0 in cc)
    (λ e. never (rw e.1 at p))
    (eqb-cases a b)

pub same-comm : (x y : List ℕ) → same x y ≡ same y x
unfolding same
same-comm [] [] = refl
same-comm [] (b ∷ y) = refl
same-comm (a ∷ x) [] = refl
same-comm (a ∷ x) (b ∷ y) =
    let ih = same-comm x y in
    ⊎_elim
    (λ e. simp (e.1, eq-eqb b a (sym e.0), ih))
    (λ e. simp (e.1, ne_eqb b a (λ q. e.0 (sym q))))
    (eqb-cases a b)

either : (t : Bool) → false ≡ cond t false false
either true = refl
either false = refl

pub sames-long : (a b : List ℕ) → (length a ≡ length b → ⊥) → false ≡ same a b
unfolding same
sames-long [] [] h = absurd (h refl)
sames-long [] (y ∷ b) h = refl
sames-long (x ∷ a) [] h = refl
sames-long (x ∷ a) (y ∷ b) h = rw (← sames-long a b (λ e. h (ap suc e))) (either (eqb x y))

-- the same as std compares lists
pub same_pointwise : (x y : List ℕ) → pointwise eqb x y ≡ same x y
unfolding same
same_pointwise [] [] = refl
same_pointwise [] (b ∷ y) = refl
same_pointwise (a ∷ x) [] = refl
same_pointwise (a ∷ x) (b ∷ y) = rw (same_pointwise x y) (by (eqb a b) (same x y))
  where
    by : (t u : Bool) → (t && u) ≡ cond t u false
    by true u = refl
    by false u = refl
