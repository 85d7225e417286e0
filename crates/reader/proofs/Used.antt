-- A loop that looks for an identification in the rows of the series table, from the last row to the first. Assumes nothing.
use Prim.Native.Nat.{ℕ, zero, suc, ◌-◌, ◌≤◌, ◌<◌}
use mathlib.Core.Path.{◌≡◌, refl}
use mathlib.Core.List.{List}
use mathlib.Core.Bool.{true, false}
use mathlib.Core.Logic.{⊎_elim}
use native.Mathlib.Omega.{arith}
use Rattle.lists.proofs.Cases.{by_cond, eqb-cases}
use Rattle.slices.specs.Same.{same}
use Rattle.characters.specs.Says.{says}
use Rattle.series.specs.Row.{view}
use Rattle.series.specs.declared.Field.TheVariants.{Identification}
use Rattle.reader.specs.Rows.{used}

module _ (doc t id : List ℕ) where
  pub used-none : (i : ℕ) → i ≤ 0 → false ≡ used doc t i id
  unfolding used
  used-none zero h = refl
  used-none (suc i) h = absurd (omega arith)

  -- a row that shows it is one of the first n
  pub used-within : (n i : ℕ) → i < n → same (says (view doc t i Identification)) id ≡ true → used doc t n id ≡ true
  unfolding used
  used-within zero i h e = absurd (omega arith)
  used-within (suc n) i h e =
      ⊎_elim
      (λ y. let f = rw y.0 at e in rw f refl)
      (λ y. by_cond (λ x. x ≡ true) (same (says (view doc t n Identification)) id) refl (used-within n i (omega (arith, y.0)) e))
      (eqb-cases i n)

  pub used-hit : (i : ℕ) → 0 < i → same (says (view doc t (i - 1) Identification)) id ≡ true → used doc t i id ≡ true
  used-hit i h = used-within i (i - 1) (omega arith)

  pub used-miss : (i : ℕ) → 0 < i → same (says (view doc t (i - 1) Identification)) id ≡ false → used doc t (i - 1) id ≡ used doc t i id
  unfolding used
  used-miss zero h e = absurd (omega arith)
  used-miss (suc i) h e = let k : suc i - 1 ≡ i = omega arith in let f = rw k at e in rw (k, f) refl
