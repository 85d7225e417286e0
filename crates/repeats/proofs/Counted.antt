-- A loop that counts attributes of a tag: its invariant, `Counted`, and how it starts, goes on and ends. Assumes nothing.
use Prim.Native.Nat.{ℕ, ◌+◌, ◌≤◌, ◌<◌}
use mathlib.Core.Path.{◌≡◌, sym, ap, ◌∙◌}
use mathlib.Core.List.{List, [], ◌∷◌}
use mathlib.Core.Bool.{true, false}
use native.Mathlib.Omega.{arith}
use lib.ListN.{length, drop}
use Rattle.attributes.specs.Attribute.{piece}
use Rattle.attributes.specs.declared.Piece.{Piece}
use Rattle.attributes.specs.declared.Piece.TheVariants.{Attribute, Close, CloseEmpty, Torn}
use Rattle.tags.specs.Tail.{Attr, ends}
use Rattle.tags.proofs.Ends.{attr, ends-attribute, ends_close, ends-empty, ends-torn, ends-over}
use Rattle.repeats.specs.Bearers.{attributes_of}
use Rattle.repeats.proofs.Bearing.{total, total-start, total-onto, total-closed, total-torn}

-- n is what f counts of the attributes before the place i
pub record Counted (f : List Attr → ℕ) (s : List ℕ) (from n i : ℕ) : Type 0 where
  pub most : n ≤ i
  pub left : total f n (ends s i) ≡ f (attributes_of (ends s from))

pub counted_start : (f : List Attr → ℕ) (s : List ℕ) (from : ℕ) → f [] ≡ 0 → Counted f s from 0 from
counted_start f s from z = record { most = omega arith; left = total-start f z (ends s from) }

module _ {f : List Attr → ℕ} {s : List ℕ} {from n i : ℕ} (w : Counted f s from n i) where
  pub counted-over : length s ≤ i → 0 ≡ f (attributes_of (ends s from))
  counted-over h = sym (ap (total f n) (ends-over s i h) ∙ total-torn f n) ∙ w.left

  -- x is what the call of `piece_at` on the part from i on answered, and t is that part
  module _ {t : List ℕ} (et : t ≡ drop i s) {x : Piece} (e : x ≡ piece t) where
    pub counted-torn : x ≡ Torn → 0 ≡ f (attributes_of (ends s from))
    counted-torn q = sym (ap (total f n) (ends-torn s i t et x e q) ∙ total-torn f n) ∙ w.left

    pub counted-close : {m : ℕ} → f [] ≡ 0 → i < length s → x ≡ Close m → n ≡ f (attributes_of (ends s from))
    counted-close {m} z h q = sym (ap (total f n) (ends_close s i t et x e m h q) ∙ total-closed f z n (i + m) false) ∙ w.left

    pub counted-empty : {m : ℕ} → f [] ≡ 0 → i < length s → x ≡ CloseEmpty m → n ≡ f (attributes_of (ends s from))
    counted-empty {m} z h q = sym (ap (total f n) (ends-empty s i t et x e m h q) ∙ total-closed f z n (i + m) true) ∙ w.left

    -- the attribute here counts k
    pub counted-more : (k : ℕ) {a l v m u : ℕ} → i < length s → x ≡ Attribute a l v m u → 1 ≤ u → k ≤ 1
        → ((more : List Attr) → f (attr i t a l v m ∷ more) ≡ k + f more) → Counted f s from (n + k) (i + u)
    counted-more k {a} {l} {v} {m} {u} h q p o g =
        record {
          most = omega (arith, w.most);
          left = sym (total-onto f n k (attr i t a l v m) g (ends s (i + u))) ∙ ap (total f n) (sym (ends-attribute s i t et x e a l v m u h q p)) ∙ w.left;
        }
