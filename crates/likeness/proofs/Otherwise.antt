-- A tag and the same tag written otherwise, as items of two documents, go together. Assumes nothing.
use Prim.Native.Nat.{ℕ, ◌+◌}
use mathlib.Core.Path.{◌≡◌, sym, ap, ◌∙◌}
use mathlib.Core.List.{List, ◌++◌}
use mathlib.Core.Bool.{Bool, true, false, cond}
use mathlib.Core.Logic.{inl, inr}
use lib.ListN.{length, drop}
use Rattle.slices.specs.Part.{part_of}
use Rattle.items.specs.Parts.{span_of, passed}
use Rattle.items.specs.Item.{tag_of, item, item_end}
use Rattle.items.specs.declared.Item.{Item}
use Rattle.items.specs.declared.Item.TheVariants.{Start, Empty}
use Rattle.digits.proofs.Parts.{tag-laid}
use Rattle.states.specs.Moves.{step}
use Rattle.reader.specs.Items.{placed}
use Rattle.reader.specs.Rows.{quoted}
use Rattle.contents.specs.Spelled.{said_of_tag, allowed}
use Rattle.likeness.specs.Alike.{WrittenTag, tag_bytes, WellTag, SameTag}
use Rattle.likeness.proofs.Shifts.{item-like}
use Rattle.likeness.proofs.Noted.{named_twice, same-twice, same-said}
use Rattle.likeness.proofs.Tags.{said_none, tag, said-is, name-part, item-is}
use Rattle.likeness.proofs.Moving.{v-same, start-moves, empty-moves}
use Rattle.likeness.proofs.Refused.{Together}

module _ (s t : WrittenTag) (r : List ℕ) (p : WellTag s) (q : WellTag t) (same : SameTag s t) (once : named_twice s.attributes ≡ false) where
  again : named_twice t.attributes ≡ false
  again = sym (same-twice same.attributes) ∙ once

  said : (empty : Bool) → said_of_tag (tag s p empty r) (tag_bytes s empty ++ r) ≡ said_of_tag (tag t q empty r) (tag_bytes t empty ++ r)
  said empty = said-is s p empty r ∙ same-said same.attributes once said_none ∙ sym (said-is t q empty r)

  name : (empty : Bool) → part_of (tag_bytes s empty ++ r) 1 (tag s p empty r).name ≡ part_of (tag_bytes t empty ++ r) 1 (tag t q empty r).name
  unfolding tag_of
  name empty = name-part s p empty r ∙ same.name ∙ sym (name-part t q empty r)

  -- the item, at any place
  at_place : (w : WrittenTag) (k : WellTag w) (empty : Bool) (at : ℕ) → named_twice w.attributes ≡ false
      → item at (tag_bytes w empty ++ r) ≡ cond empty (Empty (tag w k empty r)) (Start (tag w k empty r))
  unfolding allowed
  at_place w k true at o = let i = item-is w k true r false o in sym ((item-like 0 at (tag_bytes w true ++ r)).same (ap allowed i)) ∙ i
  at_place w k false at o = let i = item-is w k false r false o in sym ((item-like 0 at (tag_bytes w false ++ r)).same (ap allowed i)) ∙ i

  pub tags-together : (empty : Bool) (x y : List ℕ) (at : ℕ) → tag_bytes s empty ++ r ≡ drop at x → tag_bytes t empty ++ r ≡ drop at y
      → Together x y (placed at (tag_bytes s empty ++ r)) (placed at (tag_bytes t empty ++ r))
  unfolding passed span_of quoted
  tags-together true x y at ex ey =
      let i = at_place s p true at once in
      let j = at_place t q true at again in
      let l = tag-laid at (tag_bytes s true ++ r) (tag s p true r) (inr i) in
      let k = tag-laid at (tag_bytes t true ++ r) (tag t q true r) (inr j) in
      record {
        moves = λ st room.
            ap (λ (z : Item). step st z (tag_bytes s true ++ r) room) i
            ∙ empty-moves (tag s p true r) (tag_bytes s true ++ r) (tag t q true r) (tag_bytes t true ++ r) l k (said true) (name true) st room
            ∙ sym (ap (λ (z : Item). step st z (tag_bytes t true ++ r) room) j);
        value =
            ap (λ (z : Item). quoted (span_of z) (tag_bytes s true ++ r)) i
            ∙ (v-same (tag s p true r) (tag_bytes s true ++ r) (tag t q true r) (tag_bytes t true ++ r) l k (said true) (name true)).bytes
            ∙ sym (ap (λ (z : Item). quoted (span_of z) (tag_bytes t true ++ r)) j);
        passes = ap passed i ∙ sym (ap passed j);
        here = ex;
        there = ey;
      }
  tags-together false x y at ex ey =
      let i = at_place s p false at once in
      let j = at_place t q false at again in
      let l = tag-laid at (tag_bytes s false ++ r) (tag s p false r) (inl i) in
      let k = tag-laid at (tag_bytes t false ++ r) (tag t q false r) (inl j) in
      record {
        moves = λ st room.
            ap (λ (z : Item). step st z (tag_bytes s false ++ r) room) i
            ∙ start-moves (tag s p false r) (tag_bytes s false ++ r) (tag t q false r) (tag_bytes t false ++ r) l k (said false) (name false) st room
            ∙ sym (ap (λ (z : Item). step st z (tag_bytes t false ++ r) room) j);
        value =
            ap (λ (z : Item). quoted (span_of z) (tag_bytes s false ++ r)) i
            ∙ (v-same (tag s p false r) (tag_bytes s false ++ r) (tag t q false r) (tag_bytes t false ++ r) l k (said false) (name false)).bytes
            ∙ sym (ap (λ (z : Item). quoted (span_of z) (tag_bytes t false ++ r)) j);
        passes = ap passed i ∙ sym (ap passed j);
        here = ex;
        there = ey;
      }

  pub tag-ends : (w : WrittenTag) (k : WellTag w) (empty : Bool) (at : ℕ) → named_twice w.attributes ≡ false → item_end (item at (tag_bytes w empty ++ r)) ≡ length (tag_bytes w empty)
  unfolding tag_of
  tag-ends w k true at o = ap item_end (at_place w k true at o)
  tag-ends w k false at o = ap item_end (at_place w k false at o)
