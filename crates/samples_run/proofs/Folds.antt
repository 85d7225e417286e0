-- The loop that adds up the cells of a table.
-- Assumes nothing.
use mathlib.Core.Path.{◌≡◌, refl, sym, ap, ◌∙◌}
use mathlib.Core.List.{List, map}
use Prim.Native.Nat.{ℕ, ◌+◌, ◌≤◌, ◌<◌}
use native.Mathlib.Numerals.{add-one}
use native.Mathlib.Omega.{arith}
use lib.IntN.{ℤ, pos}
use lib.ListN.{length, drop, get_or, drop_of_length-le, length-map, get_or-map}
use lib.Seq.{drop-cons}
use Rattle.samples_run.specs.Sums.{next, sum_from, residue_of}

-- i cells are counted, and h is their check number
pub record Summed (t : List ℕ) (h i : ℕ) : Type 0 where
  pub most : i ≤ length t
  pub all : sum_from h (drop i t) ≡ sum_from 0 t

pub sum-start : (t : List ℕ) → Summed t 0 0
sum-start t = record { most = omega arith; all = refl }

module _ (t : List ℕ) (h i : ℕ) (s : Summed t h i) where
  pub sum-next : i < length t → (k : ℕ) → k ≡ next h (get_or t i 0) → Summed t k (i + 1)
  unfolding sum_from
  sum-next l k e =
      record { most = omega arith; all = rw (add-one, e) (rw (drop-cons t i 0 l) at s.all) }

  pub sum-end : length t ≤ i → h ≡ sum_from 0 t
  unfolding sum_from
  sum-end l = rw (drop_of_length-le t l) at s.all

-- a table of amounts is counted by their residues
module _ (t : List ℤ) (h i : ℕ) (s : Summed (map residue_of t) h i) where
  pub sum-amount : i < length t → (x k : ℕ) → x ≡ residue_of (get_or t i (pos 0)) → k ≡ next h x → Summed (map residue_of t) k (i + 1)
  unfolding residue_of
  sum-amount l x k ex ek = sum-next _ h i s (rw length-map l) k (ek ∙ ap (next h) (ex ∙ sym (get_or-map residue_of t i (pos 0))))

  pub sum-amounts : length t ≤ i → h ≡ sum_from 0 (map residue_of t)
  sum-amounts l = sum-end _ h i s (rw length-map l)
