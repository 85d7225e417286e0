-- A loop that takes the greatest name off the heap again and again: its invariant, `Falling`, and how it starts, goes on and ends.
-- Assumes nothing.
use Prim.Native.Nat.{ℕ, ◌+◌, ◌-◌, ◌≤◌, ◌<◌}
use mathlib.Core.Path.{◌≡◌, refl, ◌∙◌}
use mathlib.Core.List.{List}
use mathlib.Core.Bool.{Bool, true}
use native.Mathlib.Omega.{arith}
use lib.ListN.{length, get_or, set, length-set}
use Rattle.tags.specs.Tail.{Attr, named}
use Rattle.repeats.specs.Order.{name_at, less, up_to}
use Rattle.repeats.specs.Cells.{Cells, Kept, Fallen}
use Rattle.repeats.proofs.Pigeonhole.{up_step}
use Rattle.repeats.proofs.Table.{stored}

-- the name at p is one of the attributes'
abbrev pub named_at : List ℕ → List Attr → ℕ → Bool
named_at s more p = named (name_at s p) more

-- of the n cells of t those after the first k are off, each name less than the one before; u has the k
pub record Falling (s : List ℕ) (n : ℕ) (t u : List ℕ) (k : ℕ) : Type 0 where
  pub same : length u ≡ length t
  pub low : 1 ≤ k
  pub high : k ≤ n
  pub cells : (more : List Attr) → Cells (named_at s more) n t → Cells (named_at s more) k u
  pub steps : (more : List Attr) → Cells (named_at s more) n t → up_to (name_at s (get_or u 0 0)) more + n ≤ up_to (name_at s (get_or t 0 0)) more + k

pub falling-start : (s : List ℕ) (n : ℕ) (t : List ℕ) → 0 < n → Falling s n t t n
falling-start s n t o = record { same = refl; low = o; high = omega arith; cells = λ more c. c; steps = λ more c. omega arith }

module _ {s : List ℕ} {n : ℕ} {t u : List ℕ} {k : ℕ} (w : Falling s n t u k) where
  -- the last cell goes to the front and sinks, and the new front is less
  pub falling-more : {v : List ℕ} → 1 < k → n ≤ length t → Kept (k - 1) (set u 0 (get_or u (k - 1) 0)) v → length v ≡ length (set u 0 (get_or u (k - 1) 0))
      → less (name_at s (get_or v 0 0)) (name_at s (get_or u 0 0)) ≡ true → Falling s n t v (k - 1)
  falling-more {v} o fits kept same l =
      let h : 0 < length u = omega (arith, w.same, w.high) in
      record {
        same = same ∙ length-set u 0 (get_or u (k - 1) 0) ∙ w.same;
        low = omega arith;
        high = omega (arith, w.high);
        cells = λ more c.
            let old = w.cells more c in
            kept (named_at s more) (stored (named_at s more) k (k - 1) 0 (get_or u (k - 1) 0) u h (λ j i d. omega arith) old (old.each (k - 1) (omega arith)));
        steps = λ more c.
            let old = w.cells more c in
            omega (arith, w.steps more c, up_step (name_at s (get_or v 0 0)) (name_at s (get_or u 0 0)) l more (old.each 0 (omega arith)));
      }

  pub falling-end : (last : ℕ) → k ≤ 1 → less (name_at s last) (name_at s (get_or u 0 0)) ≡ true → Fallen s last n t
  falling-end last o l more c =
      let h = w.low in
      omega (arith, w.steps more c, up_step (name_at s last) (name_at s (get_or u 0 0)) l more ((w.cells more c).each 0 (omega arith)))
