-- A loop that looks for the name of each attribute after it: its invariant, `Paired`, and how it starts, goes on and ends. Assumes nothing.
use Prim.Native.Nat.{ℕ, ◌+◌, ◌≤◌, ◌<◌}
use mathlib.Core.Path.{◌≡◌, refl, sym, ap, ◌∙◌}
use mathlib.Core.List.{List}
use mathlib.Core.Bool.{true, false}
use lib.ListN.{length, drop}
use Rattle.slices.specs.Part.{part_of}
use Rattle.attributes.specs.Attribute.{piece}
use Rattle.attributes.specs.declared.Piece.{Piece}
use Rattle.attributes.specs.declared.Piece.TheVariants.{Attribute, Close, CloseEmpty, Torn}
use Rattle.tags.specs.Tail.{ends, twice_in}
use Rattle.tags.proofs.Ends.{attr, ends-attribute, ends_close, ends-empty, ends-torn, ends-over}
use Rattle.repeats.specs.Bearers.{attributes_of, bearers}
use Rattle.repeats.proofs.Bearing.{found_after, none_after, twice_closed, twice-torn}

-- no attribute before the place i is there again
pub record Paired (s : List ℕ) (from i : ℕ) : Type 0 where
  pub left : twice_in (ends s i) ≡ twice_in (ends s from)

pub paired-start : (s : List ℕ) (from : ℕ) → Paired s from from
paired-start s from = record { left = refl }

module _ {s : List ℕ} {from i : ℕ} (w : Paired s from i) where
  pub paired-over : length s ≤ i → false ≡ twice_in (ends s from)
  paired-over h = sym (ap twice_in (ends-over s i h) ∙ twice-torn) ∙ w.left

  -- x is what the call of `piece_at` on the part from i on answered, and t is that part
  module _ {t : List ℕ} (et : t ≡ drop i s) {x : Piece} (e : x ≡ piece t) where
    pub paired-torn : x ≡ Torn → false ≡ twice_in (ends s from)
    paired-torn q = sym (ap twice_in (ends-torn s i t et x e q) ∙ twice-torn) ∙ w.left

    pub paired-close : {m : ℕ} → i < length s → x ≡ Close m → false ≡ twice_in (ends s from)
    paired-close {m} h q = sym (ap twice_in (ends_close s i t et x e m h q) ∙ twice_closed false (i + m)) ∙ w.left

    pub paired-empty : {m : ℕ} → i < length s → x ≡ CloseEmpty m → false ≡ twice_in (ends s from)
    paired-empty {m} h q = sym (ap twice_in (ends-empty s i t et x e m h q) ∙ twice_closed true (i + m)) ∙ w.left

    -- k attributes after this one bear its name
    module _ {a l v m u : ℕ} (h : i < length s) (q : x ≡ Attribute a l v m u) (p : 1 ≤ u) {name : List ℕ} (en : name ≡ part_of t a l) {k : ℕ}
        (ek : k ≡ bearers name (attributes_of (ends s (i + u)))) where
      seen : k ≡ bearers (part_of t a l) (attributes_of (ends s (i + u)))
      seen = ek ∙ ap (λ (y : List ℕ). bearers y (attributes_of (ends s (i + u)))) en

      pub paired-found : 0 < k → true ≡ twice_in (ends s from)
      paired-found o =
          sym (ap twice_in (ends-attribute s i t et x e a l v m u h q p) ∙ found_after (attr i t a l v m) (ends s (i + u)) (rw seen at o)) ∙ w.left

      pub paired-more : k ≤ 0 → Paired s from (i + u)
      paired-more o =
          record {
            left = sym (ap twice_in (ends-attribute s i t et x e a l v m u h q p) ∙ none_after (attr i t a l v m) (ends s (i + u)) (rw seen at o)) ∙ w.left;
          }
