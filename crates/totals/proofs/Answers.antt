-- The three answers, with what stands in the cells. Assumes nothing.
use Prim.Native.Nat.{ℕ, ◌≤◌, ◌<◌}
use mathlib.Core.Path.{◌≡◌, sym, ap, ◌∙◌}
use mathlib.Core.List.{List, [], ◌∷◌}
use mathlib.Core.Bool.{Bool, true, false}
use native.Mathlib.Nat.{le_refl}
use borrow.Author.Tests.{lt-ltb, le-ltb}
use lib.IntN.{ℤ, pos}
use lib.ListN.{length, length-replicate}
use Rattle.tables.specs.Cells.{no_amounts}
use Rattle.totals.specs.Rules.{Handed, most_series, is_allowed, totals_refusal}
use Rattle.totals.specs.Totals.{each_total, added, pairs, pair_cells, total_cells, sum_cells, PermittedTotals}
use Rattle.totals.proofs.Adding.{few}

pub blank-length : (t : List ℤ) (n : ℕ) → t ≡ no_amounts n → length t ≡ n
blank-length t n e = ap length e ∙ length-replicate n (pos 0)

pub blank-again : (t : List ℤ) (n : ℕ) → t ≡ no_amounts n → t ≡ no_amounts (length t)
blank-again t n e = e ∙ ap no_amounts (sym (blank-length t n e))

pub no_pairs : (n : ℕ) → no_amounts n ≡ pair_cells n []
unfolding pair_cells pairs
no_pairs n = few (pos 0) n n (le_refl _)

module _ (g : Handed) (n m : ℕ) (t s : List ℤ) (b : t ≡ no_amounts n) (d : s ≡ no_amounts m) where
  pub answer-17 : most_series < g.count → PermittedTotals g n m 17 t s
  unfolding totals_refusal total_cells sum_cells
  answer-17 h =
      let e = lt-ltb most_series g.count h in
      record { refuses = rw e; each = rw e (b ∙ no_pairs n); all = rw e (d ∙ no_pairs m) }

  module _ (l : g.count ≤ most_series) {r : Bool} (a : r ≡ is_allowed g) where
    pub answer-18 : r ≡ false → PermittedTotals g n m 18 t s
    unfolding totals_refusal total_cells sum_cells
    answer-18 f =
        let e = le-ltb most_series g.count l in
        let z = sym a ∙ f in
        record { refuses = rw (e, z); each = rw (e, z) (b ∙ no_pairs n); all = rw (e, z) (d ∙ no_pairs m) }

module _ (g : Handed) (n m : ℕ) (t s u v : List ℤ) (b : t ≡ no_amounts n) (d : s ≡ no_amounts m) (l : g.count ≤ most_series) {r : Bool} (a : r ≡ is_allowed g) where
  pub answer-0 : r ≡ true → u ≡ pair_cells (length t) (each_total g) → v ≡ pair_cells (length s) (added (each_total g) ∷ []) → PermittedTotals g n m 0 u v
  unfolding totals_refusal total_cells sum_cells
  answer-0 f x y =
      let e = le-ltb most_series g.count l in
      let z = sym a ∙ f in
      record {
        refuses = rw (e, z);
        each = rw (e, z) (x ∙ ap (λ (k : ℕ). pair_cells k (each_total g)) (blank-length t n b));
        all = rw (e, z) (y ∙ ap (λ (k : ℕ). pair_cells k (added (each_total g) ∷ [])) (blank-length s m d));
      }
