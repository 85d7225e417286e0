-- The order of names: no name comes before itself, and what comes before comes before all that follows. A loop that compares two names:
-- its invariant, `Compared`, and how it starts, goes on and ends. Assumes nothing.
use Prim.Native.Nat.{ℕ, ◌+◌, ◌≤◌, ◌<◌}
use mathlib.Core.Path.{◌≡◌, refl}
use mathlib.Core.List.{List, [], ◌∷◌}
use mathlib.Core.Bool.{true, false}
use mathlib.Core.Logic.{◌⊎◌, inl, inr, ⊎_elim}
use native.Mathlib.Omega.{arith}
use native.Mathlib.Nat.{le_refl}
use native.Mathlib.Numerals.{add-one}
use lib.ListN.{length, get_or, drop, drop_of_length-le}
use lib.Seq.{drop-cons}
use borrow.Author.Tests.{lt-ltb, le-ltb}
use Rattle.lists.proofs.Cases.{ltb-cases, never}
use Rattle.repeats.specs.Order.{less}

pub less-self : (x : List ℕ) → less x x ≡ false
unfolding less
less-self [] = refl
less-self (a ∷ x) = simp (le-ltb a a (le_refl a)) (less-self x)

-- by a smaller byte in front, or by what stands after the same byte
by_front : (a b : ℕ) (x y : List ℕ) → less (a ∷ x) (b ∷ y) ≡ true → (a < b) ⊎ ((a ≡ b) × (less x y ≡ true))
unfolding less
by_front a b x y p =
    ⊎_elim
    (λ l. inl l.0)
    (λ l. ⊎_elim (λ g. never (simp (l.1, g.1) at p)) (λ g. inr (omega arith, simp (l.1, g.1) at p)) (ltb-cases b a))
    (ltb-cases a b)

pub less-trans : (x y z : List ℕ) → less x y ≡ true → less y z ≡ true → less x z ≡ true
unfolding less
less-trans x [] z p q = never p
less-trans x (b ∷ y) [] p q = never q
less-trans [] (b ∷ y) (c ∷ z) p q = refl
less-trans (a ∷ x) (b ∷ y) (c ∷ z) p q =
    ⊎_elim
    (λ l.
    ⊎_elim
    (λ m. let h : a < c = omega arith in simp (lt-ltb a c h))
    (λ m. let h : a < c = omega arith in simp (lt-ltb a c h))
    (by_front b c y z q))
    (λ l.
    ⊎_elim
    (λ m. let h : a < c = omega arith in simp (lt-ltb a c h))
    (λ m.
    let g : c ≤ a = omega arith in
    let h : a ≤ c = omega arith in
    simp (le-ltb a c g, le-ltb c a h) (less-trans x y z l.1 m.1))
    (by_front b c y z q))
    (by_front a b x y p)

pub record Compared (x y : List ℕ) (i : ℕ) : Type 0 where
  pub left : less (drop i x) (drop i y) ≡ less x y

module _ {x y : List ℕ} where
  pub compared-start : Compared x y 0
  compared-start = record { left = refl }

  pub compared-end : {i : ℕ} → Compared x y i → length y ≤ i → false ≡ less x y
  unfolding less
  compared-end w h = rw (drop_of_length-le y h) at w.left

  pub compared-short : {i : ℕ} → Compared x y i → i < length y → length x ≤ i → true ≡ less x y
  unfolding less
  compared-short {i} w h k = rw (drop_of_length-le x k, drop-cons y i 0 h) at w.left

  module _ {i : ℕ} (w : Compared x y i) (h : i < length y) (k : i < length x) where
    pub compared-less : get_or x i 0 < get_or y i 0 → true ≡ less x y
    unfolding less
    compared-less l = rw (drop-cons x i 0 k, drop-cons y i 0 h, lt-ltb (get_or x i 0) (get_or y i 0) l) at w.left

    pub compared-greater : get_or y i 0 < get_or x i 0 → get_or y i 0 ≤ get_or x i 0 → false ≡ less x y
    unfolding less
    compared-greater g l = simp (le-ltb (get_or x i 0) (get_or y i 0) l, lt-ltb (get_or y i 0) (get_or x i 0) g) at (rw (drop-cons x i 0 k, drop-cons y i 0 h) at w.left)

    pub compared-more : get_or x i 0 ≤ get_or y i 0 → get_or y i 0 ≤ get_or x i 0 → Compared x y (i + 1)
    unfolding less
    compared-more g l =
        record { left = rw (add-one i) (simp (le-ltb (get_or x i 0) (get_or y i 0) l, le-ltb (get_or y i 0) (get_or x i 0) g) at (rw (drop-cons x i 0 k, drop-cons y i 0 h) at w.left)) }

pub ruleset compared = (compared-start, compared-end, compared-short, compared-less, compared-greater, compared-more)
