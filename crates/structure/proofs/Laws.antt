-- The turns of the two loops over a table, at row i: a, b and f are what the columns of that row were found to be.
-- Assumes nothing.
use mathlib.Core.Path.{◌≡◌}
use mathlib.Core.List.{List}
use mathlib.Core.Bool.{Bool, true, false}
use Prim.Native.Nat.{ℕ, ◌+◌, ◌≤◌, ◌<◌}
use native.Mathlib.Numerals.{add-one}
use lib.ListN.{length, drop, get_or, drop_of_length-le}
use lib.Seq.{drop-cons}
use borrow.Author.Tests.{eq-eqb, ne_eqb}
use Rattle.std.specs.Prelude.{Option, Some, None}
use Rattle.structure.specs.Rows.{next_in, ends_in, parent_of, name_of, required}

module _ (t : List ℕ) (i p x : ℕ) {d : Option ℕ} (inv : next_in (drop i t) i p x ≡ d) where
  pub next-end : length t ≤ i → None ≡ d
  unfolding next_in
  next-end h = rw (drop_of_length-le t h) at inv

  module _ (h : i < length t) {a : ℕ} (ea : a ≡ parent_of (get_or t i 0)) where
    pub next_past : (a ≡ p → ⊥) → next_in (drop (i + 1) t) (i + 1) p x ≡ d
    unfolding next_in
    next_past n = rw (add-one i) (rw (drop-cons t i 0 h, ← ea, ne_eqb _ _ n, add-one) at inv)

    module _ (here : a ≡ p) {b : ℕ} (eb : b ≡ name_of (get_or t i 0)) where
      pub next_row : b ≡ x → Some i ≡ d
      unfolding next_in
      next_row y = rw (drop-cons t i 0 h, ← ea, ← eb, eq-eqb _ _ here, eq-eqb _ _ y) at inv

      module _ (other : b ≡ x → ⊥) {f : Bool} (ef : f ≡ required (get_or t i 0)) where
        pub next-stop : f ≡ true → None ≡ d
        unfolding next_in
        next-stop y = rw (drop-cons t i 0 h, ← ea, ← eb, ← ef, eq-eqb _ _ here, ne_eqb _ _ other, y) at inv

        pub next-on : f ≡ false → next_in (drop (i + 1) t) (i + 1) p x ≡ d
        unfolding next_in
        next-on y = rw (add-one i) (rw (drop-cons t i 0 h, ← ea, ← eb, ← ef, eq-eqb _ _ here, ne_eqb _ _ other, y, add-one) at inv)

module _ (t : List ℕ) (i p : ℕ) {d : Bool} (inv : ends_in (drop i t) p ≡ d) where
  pub ends-end : length t ≤ i → true ≡ d
  unfolding ends_in
  ends-end h = rw (drop_of_length-le t h) at inv

  module _ (h : i < length t) {a : ℕ} (ea : a ≡ parent_of (get_or t i 0)) where
    pub ends-past : (a ≡ p → ⊥) → ends_in (drop (i + 1) t) p ≡ d
    unfolding ends_in
    ends-past n = rw (add-one i) (rw (drop-cons t i 0 h, ← ea, ne_eqb _ _ n) at inv)

    module _ (here : a ≡ p) {f : Bool} (ef : f ≡ required (get_or t i 0)) where
      pub ends-stop : f ≡ true → false ≡ d
      unfolding ends_in
      ends-stop y = rw (drop-cons t i 0 h, ← ea, ← ef, eq-eqb _ _ here, y) at inv

      pub ends_on : f ≡ false → ends_in (drop (i + 1) t) p ≡ d
      unfolding ends_in
      ends_on y = rw (add-one i) (rw (drop-cons t i 0 h, ← ea, ← ef, eq-eqb _ _ here, y) at inv)
