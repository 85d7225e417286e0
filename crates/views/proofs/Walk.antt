-- The loop over the items that fills the table. Assumes nothing.
use Prim.Native.Nat.{ℕ, ◌+◌, ◌≤◌, ◌<◌}
use mathlib.Core.Path.{◌≡◌, refl, sym, ap, ◌∙◌}
use mathlib.Core.List.{List}
use native.Mathlib.Omega.{arith}
use lib.Dec.{eqb}
use lib.ListN.{length, drop, get_or}
use Rattle.lists.proofs.Cases.{by_cond}
use Rattle.columns.specs.Columns.{role_of, series_role}
use Rattle.items.specs.Item.{item, item_end}
use Rattle.items.specs.declared.Item.{Item}
use Rattle.items.specs.declared.Item.TheVariants.{Start, Empty, End, Text, Comment, Unreadable}
use Rattle.reader.specs.Items.{Placed, items_from}
use Rattle.reader.proofs.Ran.{items-next, items-over}
use Rattle.views.specs.Shown.{series_at, tag_row, tag_counts, item_counts, item_shows, items_shown}

-- an item counts one series at most
at_most : (w n : ℕ) → series_at w n ≤ n + 1
unfolding series_at
at_most w n = by_cond (λ (m : ℕ). m ≤ n + 1) (eqb (role_of w) series_role) (omega arith) (omega arith)

pub counts-one : (rows : List ℕ) (x : Item) (s : List ℕ) (n : ℕ) → item_counts rows x s n ≤ n + 1
unfolding item_counts tag_counts
counts-one rows (Start t) s n = at_most (get_or rows (tag_row rows t s) 0) n
counts-one rows (Empty t) s n = at_most (get_or rows (tag_row rows t s) 0) n
counts-one rows (End k e) s n = omega arith
counts-one rows (Text w e) s n = omega arith
counts-one rows (Comment e) s n = omega arith
counts-one rows (Unreadable p) s n = omega arith

-- what is left of the items at the place `at` shows what all of them show
pub record Shows (doc : List ℕ) (from : ℕ) (rows t₀ t : List ℕ) (n at : ℕ) : Type 0 where
  pub left : items_shown rows (items_from doc at) n t ≡ items_shown rows (items_from doc from) 0 t₀
  pub low : n ≤ at
  pub same : length t ≡ length t₀

module _ (doc : List ℕ) (from : ℕ) (rows t₀ : List ℕ) where
  pub shows-start : Shows doc from rows t₀ t₀ 0 from
  shows-start = record { left = refl; low = omega arith; same = refl }

  module _ {t : List ℕ} {n at : ℕ} (r : Shows doc from rows t₀ t n at) where
    pub shows-end : length doc ≤ at → t ≡ items_shown rows (items_from doc from) 0 t₀
    unfolding items_shown
    shows-end h = sym (ap (λ (xs : List Placed). items_shown rows xs n t) (items-over doc at h)) ∙ r.left

    pub shows-next : {s : List ℕ} {x : Item} {m : ℕ} {u : List ℕ} → at < length doc → s ≡ drop at doc → x ≡ item at s → 1 ≤ item_end x → m ≡ item_counts rows x s n
        → u ≡ item_shows rows at x s n t → length u ≡ length t → Shows doc from rows t₀ u m (at + item_end x)
    unfolding items_shown
    shows-next {s} {x} {m} {u} h es ex le em eu l =
        let e = items-next doc at (item_end x) h (sym (ap item_end (ex ∙ ap (item at) es))) le in
        let k = counts-one rows x s n in
        let low = r.low in
        record {
          left =
              rw (em, eu, ex, es) refl
              ∙ sym (ap (λ (xs : List Placed). items_shown rows xs n t) e) ∙ r.left;
          low = omega (arith, k, em, low, le);
          same = l ∙ r.same;
        }
