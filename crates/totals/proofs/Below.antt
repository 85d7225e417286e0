-- A test of each of the first numbers. Assumes nothing.
use Prim.Native.Nat.{ℕ, zero, suc, ◌<◌}
use mathlib.Core.Path.{◌≡◌, refl, sym, ap, ◌∙◌}
use mathlib.Core.Bool.{Bool, true, false, cond, ◌&&◌}
use mathlib.Core.Logic.{⊎_elim}
use native.Mathlib.Numerals.{add-one}
use native.Mathlib.Omega.{arith}
use Rattle.std.specs.List.{range_with_len, list_all}
use Rattle.std.proofs.lemmas.List.Folds.{list_all-append, list_all-map}
use Rattle.std.proofs.lemmas.List.FromFn.{map-range_with_len_more}
use mathlib.Core.List.{map, [], ◌∷◌}
use Rattle.lists.proofs.Cases.{eqb-cases, both_true}
use Rattle.totals.specs.Rules.{all_below}

and_cond : (a b : Bool) → (a && (b && true)) ≡ cond a b false
and_cond true true = refl
and_cond true false = refl
and_cond false b = refl

module _ (f : ℕ → Bool) where
  pub all-at : (n k : ℕ) → all_below f n ≡ true → k < n → f k ≡ true
  unfolding all_below
  all-at zero k a h = absurd (omega arith)
  all-at (suc n) k a h =
      let b = both_true (all_below f n) a in
      ⊎_elim (λ y. rw y.0 b.1) (λ y. all-at n k b.0 (omega (arith, y.0))) (eqb-cases k n)

  pub all_from : (n : ℕ) → ((k : ℕ) → k < n → f k ≡ true) → all_below f n ≡ true
  unfolding all_below
  all_from zero a = refl
  all_from (suc n) a = rw (all_from n (λ k h. a k (omega arith))) (a n (omega arith))

  -- the same, said of the list of the numbers
  all_mapped : (n : ℕ) → list_all (λ x. x) (map f (range_with_len 0 n)) ≡ all_below f n
  unfolding all_below
  all_mapped zero = refl
  all_mapped (suc n) =
      let e = rw add-one at (map-range_with_len_more f 0 n n (omega arith)) in
      ap (list_all (λ x. x)) e
      ∙ list_all-append (λ x. x) (map f (range_with_len 0 n)) (f n ∷ [])
      ∙ rw (all_mapped n) (and_cond (all_below f n) (f n))

  pub all_listed : (n : ℕ) → list_all f (range_with_len 0 n) ≡ all_below f n
  all_listed n = sym (list_all-map (λ x. x) f (range_with_len 0 n)) ∙ all_mapped n
