-- A tag written otherwise, and an empty tag as a start tag and its end, say the same. Assumes nothing.
use Prim.Native.Nat.{ℕ, ◌+◌, ◌<◌}
use mathlib.Core.Path.{◌≡◌, refl, sym, ap, ◌∙◌}
use mathlib.Core.List.{List, [], ◌∷◌, ◌++◌}
use mathlib.Core.Bool.{Bool, true, false, cond}
use mathlib.Core.Logic.{⊎_elim}
use native.Mathlib.Omega.{arith}
use lib.ListN.{length, take, drop}
use lib.Seq.{take-append_seam}
use Rattle.lists.proofs.Cases.{bool_cases, never}
use Rattle.slices.specs.Part.{part_of}
use Rattle.elements.specs.Names.{element_no}
use Rattle.tags.specs.Known.{absent, no_dtd, none_known}
use Rattle.tags.specs.Tail.{kept_of}
use Rattle.items.specs.Item.{tag_of, tag_item, item, item_end}
use Rattle.items.specs.declared.Tag.{Tag}
use Rattle.items.specs.declared.Item.{Item}
use Rattle.items.specs.declared.Item.TheVariants.{Start, Empty, Unreadable}
use Rattle.states.specs.Attributes.{there}
use Rattle.reader.specs.Items.{items_after}
use Rattle.trees.specs.Trees.{Sign, Opens, Closes}
use Rattle.contents.specs.Said.{Absent, TagSaid}
use Rattle.contents.specs.Spelled.{value_given, dtd_of_tag, said_of_tag, element_in, signs_by, allowed, AllAllowed}
use Rattle.likeness.specs.Alike.{White, SayAlike, WrittenTag, tag_bytes, end_bytes, IsName, WellTag, SameTag}
use Rattle.likeness.proofs.Shifts.{signs_in, StandIn, signs-next, next-stands, stands-next}
use Rattle.likeness.proofs.Written.{TagRead, tag-spelt, behind_name, tag_read, end-spelt, end_read}
use Rattle.likeness.proofs.Noted.{said_kept, said_from, said_read, named_twice, twice-read, same-twice, same-said}

-- what a tag without attributes says of them
abbrev pub said_none : TagSaid
said_none = record { v = Absent; scheme = Absent; dtd = record { version = Absent; release = Absent; message = Absent }; others = false; passable = true }

-- what is said by a tag as it is written, none of whose attributes stands twice
tag_signs : WrittenTag → Bool → List (Sign TagSaid)
tag_signs t empty = Opens (said_from said_none t.attributes) (element_no t.name) ∷ cond empty (Closes (element_no t.name) ∷ []) []

-- the item in front of l takes the bytes u, may stand in a document, and says these signs
record Says (u l : List ℕ) (signs : List (Sign TagSaid)) : Type 0 where
  some : 0 < length u
  end : item_end (item 0 (u ++ l)) ≡ length u
  stands : allowed (item 0 (u ++ l)) ≡ true
  says : signs_by (item 0 (u ++ l)) (u ++ l) ≡ signs

module _ {u l : List ℕ} {signs : List (Sign TagSaid)} (h : Says u l signs) where
  says-next : signs_in (u ++ l) ≡ signs ++ signs_in l
  says-next = signs-next u l h.some h.end ∙ ap (λ (g : List (Sign TagSaid)). g ++ signs_in l) h.says

  says-stand : StandIn l → StandIn (u ++ l)
  says-stand a = stands-next u l h.some h.end h.stands a

  says-behind : StandIn (u ++ l) → StandIn l
  says-behind a = (next-stands u l h.some h.end a).1

module _ (t : WrittenTag) (ok : WellTag t) (empty : Bool) (r : List ℕ) where
  abbrev pub here : List ℕ
  here = tag_bytes t empty ++ r

  abbrev pub as_read : TagRead t empty r
  as_read = tag_read t ok empty r

  abbrev pub tag : Tag
  tag = tag_of (length t.name) (kept_of none_known as_read.attributes) (length (tag_bytes t empty))

  none_said : said_kept none_known here ≡ said_none
  unfolding said_kept none_known no_dtd absent value_given dtd_of_tag there
  none_said = refl

  pub said-is : said_of_tag tag here ≡ said_from said_none t.attributes
  unfolding said_of_tag tag_of said_kept
  said-is = said_read here as_read.tells none_known ∙ ap (λ (z : TagSaid). said_from z t.attributes) none_said

  pub name-part : part_of here 1 (length t.name) ≡ t.name
  unfolding part_of
  name-part =
      ap (λ (s : List ℕ). take (length t.name) (drop 1 s)) (tag-spelt t ok empty r) ∙ take-append_seam t.name (behind_name t ok empty r)

  name-is : element_in 1 (length t.name) here ≡ element_no t.name
  unfolding element_in
  name-is = ap element_no name-part

  -- the item, by whether an attribute stands twice
  pub item-is : (b : Bool) → named_twice t.attributes ≡ b → item 0 here ≡ cond b (Unreadable 0) (cond empty (Empty tag) (Start tag))
  unfolding tag_item
  item-is b e =
      as_read.is
      ∙ ap (λ (z : Bool). cond z (Unreadable 0) (cond empty (Empty tag) (Start tag))) (twice-read here as_read.tells ∙ e)

  pub tag-some : 0 < length (tag_bytes t empty)
  unfolding tag_bytes
  tag-some = omega arith

  tag-by : (b : Bool) → empty ≡ b → named_twice t.attributes ≡ false → Says (tag_bytes t empty) r (tag_signs t empty)
  unfolding signs_by allowed tag_signs tag_of
  tag-by true e o =
      let i : item 0 here ≡ Empty tag = item-is false o ∙ rw e in
      record { some = tag-some; end = ap item_end i; stands = ap allowed i; says = ap (λ (x : Item). signs_by x here) i ∙ rw (said-is, name-is, e) }
  tag-by false e o =
      let i : item 0 here ≡ Start tag = item-is false o ∙ rw e in
      record { some = tag-some; end = ap item_end i; stands = ap allowed i; says = ap (λ (x : Item). signs_by x here) i ∙ rw (said-is, name-is, e) }

  tag-says : named_twice t.attributes ≡ false → Says (tag_bytes t empty) r (tag_signs t empty)
  tag-says o = tag-by empty refl o

  first-stands : StandIn here → allowed (item 0 here) ≡ true
  unfolding tag_bytes items_after AllAllowed
  first-stands a = a.0

  -- "An attribute twice in a tag" may not stand
  pub stands-once : StandIn here → named_twice t.attributes ≡ false
  unfolding allowed
  stands-once a =
      ⊎_elim
      (λ e. never (sym (ap allowed (item-is true e)) ∙ first-stands a))
      (λ e. e)
      (bool_cases (named_twice t.attributes))

-- ---- the same tag, written otherwise

pub tag-alike : (s t : WrittenTag) (empty : Bool) (r : List ℕ) → WellTag s → WellTag t → SameTag s t → SayAlike (tag_bytes s empty ++ r) (tag_bytes t empty ++ r)
unfolding tag_signs
tag-alike s t empty r p q same a =
    let o = stands-once s p empty r a in
    let x = tag-says s p empty r o in
    let y = tag-says t q empty r (sym (same-twice same.attributes) ∙ o) in
    let g : tag_signs s empty ≡ tag_signs t empty = rw (same-said same.attributes o said_none, same.name) in
    (says-stand y (says-behind x a), says-next x ∙ ap (λ (z : List (Sign TagSaid)). z ++ signs_in r) g ∙ sym (says-next y))

-- ---- an empty tag, and a start tag with its end

end-says : (n w r : List ℕ) → IsName n → White w → Says (end_bytes n w) r (Closes (element_no n) ∷ [])
unfolding end_bytes signs_by allowed element_in part_of
end-says n w r name space =
    let i = end_read n w r name space in
    record {
      some = omega arith;
      end = ap item_end i;
      stands = ap allowed i;
      says =
          ap (λ (x : Item). signs_by x (end_bytes n w ++ r)) i
          ∙ ap (λ (l : List ℕ). Closes (element_no l) ∷ [])
          (ap (λ (s : List ℕ). take (length n) (drop 2 s)) (end-spelt n w r name space) ∙ take-append_seam n (w ++ (0x3E ∷ r)));
    }

pub empty-alike : (t : WrittenTag) (w r : List ℕ) → WellTag t → White w → SayAlike (tag_bytes t true ++ r) (tag_bytes t false ++ (end_bytes t.name w ++ r))
unfolding tag_signs
empty-alike t w r p space a =
    let o = stands-once t p true r a in
    let x = tag-says t p true r o in
    let e = end-says t.name w r p.name space in
    let y = tag-says t p false (end_bytes t.name w ++ r) o in
    (says-stand y (says-stand e (says-behind x a)), says-next x ∙ sym (says-next y ∙ ap (λ (g : List (Sign TagSaid)). tag_signs t false ++ g) (says-next e)))
