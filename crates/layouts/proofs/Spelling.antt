-- The fixed layout of a content spells it. Assumes nothing.
use Prim.Native.Nat.{ℕ, suc, ◌+◌, ◌≤◌, ◌<◌}
use mathlib.Core.Path.{◌≡◌, refl, sym, ap, ◌∙◌, subst}
use mathlib.Core.List.{List, [], ◌∷◌, ◌++◌, append_assoc, append-nil}
use mathlib.Core.Bool.{Bool, true, false, cond}
use native.Mathlib.Omega.{arith}
use lib.Dec.{eqb}
use lib.ListN.{length, drop, get_or, length-append, length-drop}
use lib.ListN.{drop_of_length-le}
use borrow.Author.Tests.{ne_eqb}
use Rattle.std.specs.Prelude.{Ok}
use Rattle.lists.proofs.Cases.{never}
use Rattle.slices.specs.Bytes.{byte}
use Rattle.slices.specs.Same.{same, begins}
use Rattle.slices.specs.Text.{text}
use Rattle.attributes.specs.Names.{name_start}
use Rattle.prolog.specs.Prolog.{mark_len, begin_after, begin}
use Rattle.structure.specs.Rows.{name_of}
use Rattle.guideline.specs.Rows.{rows_of}
use Rattle.notes.specs.declared.Shape.{Shape}
use Rattle.elements.specs.Names.{element_no}
use Rattle.states.specs.Attributes.{asks_v}
use Rattle.items.specs.Item.{item, item_end, tag_of}
use Rattle.items.specs.declared.Item.{Item}
use Rattle.items.specs.declared.Item.TheVariants.{Start, Empty, End}
use Rattle.reader.specs.Items.{Placed, items_after, items_from}
use Rattle.reader.specs.Reading.{room_of}
use Rattle.reader.specs.Answer.{read_of}
use Rattle.reader.proofs.Ran.{items-next}
use Rattle.trees.specs.Trees.{Sign, Opens, Closes, Trees, none, element, spell}
use Rattle.contents.specs.Said.{TagSaid}
use Rattle.contents.specs.Spelled.{signs_by, signs_of, allowed, AllAllowed, Spells}
use Rattle.contents.specs.Legal.{Legal, HasRoom}
use Rattle.contents.specs.Shown.{Tells}
use Rattle.contents.proofs.Theorems.{legal-accepted}
use Rattle.layouts.specs.Layout.{element_name, attributes_text, tag_text, end_text, layout_of, TagWritable, HasName, Writable}
use Rattle.layouts.proofs.Tags.{passes, some_left}
use Rattle.layouts.proofs.Names.{Name, names-fine}
use Rattle.layouts.proofs.Items.{Closing, closes-empty, closes-start, laid_tag, tag_known, tag_end, tag_read, tag-said, tag-named, tag-long, laid_end, end_read, end-named, start-range, name-starts}

-- the k bytes from `at` on are whole items that may stand in a document and say these signs
pub record Segment (doc : List ℕ) (at k : ℕ) (signs : List (Sign TagSaid)) : Type 0 where
  pub says : signs_of (items_from doc at) ≡ signs ++ signs_of (items_from doc (at + k))
  pub stands : AllAllowed (items_from doc (at + k)) → AllAllowed (items_from doc at)

segment-none : (doc : List ℕ) (at : ℕ) → Segment doc at 0 []
segment-none doc at =
    let z : at ≡ at + 0 = omega arith in
    record { says = ap (λ (n : ℕ). signs_of (items_from doc n)) z; stands = λ h. subst (λ (n : ℕ). AllAllowed (items_from doc n)) (sym z) h }

segment-join : {doc : List ℕ} {at k m l : ℕ} {x y : List (Sign TagSaid)} → Segment doc at k x → Segment doc (at + k) m y → l ≡ k + m → Segment doc at l (x ++ y)
segment-join {doc} {at} {k} {m} {l} {x} {y} a b e =
    let z : at + k + m ≡ at + l = omega (arith, e) in
    record {
      says =
          a.says
          ∙ ap (λ (s : List (Sign TagSaid)). x ++ s) b.says
          ∙ sym (append_assoc x y (signs_of (items_from doc (at + k + m))))
          ∙ ap (λ (n : ℕ). (x ++ y) ++ signs_of (items_from doc n)) z;
      stands = λ h. a.stands (b.stands (subst (λ (n : ℕ). AllAllowed (items_from doc n)) (sym z) h));
    }

-- one item
segment-item : (doc : List ℕ) (at k : ℕ) (x : Item) {signs : List (Sign TagSaid)} → at < length doc → item at (drop at doc) ≡ x → item_end x ≡ k → 1 ≤ k
    → signs_by x (drop at doc) ≡ signs → allowed x ≡ true → Segment doc at k signs
unfolding signs_of AllAllowed
segment-item doc at k x {signs} h i e l s a =
    let n = items-next doc at k h (ap item_end i ∙ e) l in
    record {
      says =
          ap signs_of n
          ∙ ap (λ (y : List (Sign TagSaid)). y ++ signs_of (items_from doc (at + k))) (ap (λ (y : Item). signs_by y (drop at doc)) i ∙ s);
      stands = λ r. subst AllAllowed (sym n) (ap allowed i ∙ a, r);
    }

-- ---- tags

tag-shape : (e : ℕ) (a : TagSaid) (close r : List ℕ) → tag_text e a close ++ r ≡ 0x3C ∷ (element_name e ++ (attributes_text a ++ (close ++ r)))
unfolding tag_text
tag-shape e a close r =
    ap (λ (l : List ℕ). 0x3C ∷ l) (append_assoc (element_name e) (attributes_text a ++ close) r ∙ ap (λ (l : List ℕ). element_name e ++ l) (append_assoc (attributes_text a) close r))

end-shape : (e : ℕ) (r : List ℕ) → end_text e ++ r ≡ 0x3C ∷ 0x2F ∷ (element_name e ++ (0x3E ∷ r))
unfolding end_text
end-shape e r = ap (λ (l : List ℕ). 0x3C ∷ 0x2F ∷ l) (append_assoc (element_name e) (0x3E ∷ []) r)

module _ (doc : List ℕ) (at e : ℕ) (h : HasName e) where
  w : Name (element_name e)
  w = (names-fine e h).0

  own : element_no (element_name e) ≡ e
  own = (names-fine e h).1

  module _ (a : TagSaid) (t : TagWritable a) (r : List ℕ) where
    empty-tag : drop at doc ≡ tag_text e a (text "/>") ++ r → Segment doc at (length (tag_text e a (text "/>"))) (Opens a e ∷ Closes e ∷ [])
    unfolding signs_by allowed tag_of tag_text
    empty-tag d =
        let here = d ∙ tag-shape e a (text "/>") r in
        let x = Empty (tag_of (length (element_name e)) (tag_known w a t closes-empty r) (tag_end w a t closes-empty r)) in
        segment-item doc at _ x
        (some_left doc at _ (ap length here) (omega arith))
        (ap (item at) here ∙ tag_read w a t closes-empty r at)
        (tag-long w a t closes-empty r)
        (omega arith)
        (ap (signs_by x) here ∙ rw (tag-said w a t closes-empty r, tag-named w a t closes-empty r, own) refl)
        refl

    start-tag : drop at doc ≡ tag_text e a (text ">") ++ r → Segment doc at (length (tag_text e a (text ">"))) (Opens a e ∷ [])
    unfolding signs_by allowed tag_of tag_text
    start-tag d =
        let here = d ∙ tag-shape e a (text ">") r in
        let x = Start (tag_of (length (element_name e)) (tag_known w a t closes-start r) (tag_end w a t closes-start r)) in
        segment-item doc at _ x
        (some_left doc at _ (ap length here) (omega arith))
        (ap (item at) here ∙ tag_read w a t closes-start r at)
        (tag-long w a t closes-start r)
        (omega arith)
        (ap (signs_by x) here ∙ rw (tag-said w a t closes-start r, tag-named w a t closes-start r, own) refl)
        refl

  end-tag : (r : List ℕ) → drop at doc ≡ end_text e ++ r → Segment doc at (length (end_text e)) (Closes e ∷ [])
  unfolding signs_by allowed end_text
  end-tag r d =
      let here = d ∙ end-shape e r in
      let x = End (length (element_name e)) (length (element_name e) + 3) in
      segment-item doc at _ x
      (some_left doc at _ (ap length here) (omega arith))
      (ap (item at) here ∙ end_read w r at)
      (let l = length-append (element_name e) (0x3E ∷ []) in omega (arith, l))
      (omega arith)
      (ap (signs_by x) here ∙ rw (end-named w r, own) refl)
      refl

-- ---- a content

abbrev Laid : List ℕ → Trees TagSaid → Type 0
Laid rows c = (doc : List ℕ) (at : ℕ) (r : List ℕ) → drop at doc ≡ layout_of rows c ++ r → Segment doc at (length (layout_of rows c)) (spell rows c)

module _ (rows : List ℕ) (e : ℕ) (h : HasName e) (a : TagSaid) (t : TagWritable a) (inner after : Trees TagSaid) (back : Laid rows after) (doc : List ℕ) (at : ℕ) (r : List ℕ) where
  abbrev behind : List ℕ
  behind = layout_of rows after

  abbrev inside : List ℕ
  inside = layout_of rows inner

  abbrev empty : List ℕ
  empty = tag_text e a (text "/>")

  abbrev start : List ℕ
  start = tag_text e a (text ">")

  abbrev both : List ℕ
  both = start ++ (inside ++ end_text e)

  abbrev said : List (Sign TagSaid)
  said = Opens a e ∷ (spell rows inner ++ (Closes e ∷ spell rows after))

  -- an element with a `v`
  single : inner ≡ none → drop at doc ≡ (empty ++ behind) ++ r → Segment doc at (length (empty ++ behind)) said
  unfolding spell
  single z g =
      let g1 = g ∙ append_assoc empty behind r in
      let one = empty-tag doc at e h a t (behind ++ r) g1 in
      let two = back doc (at + length empty) r (passes doc at empty (behind ++ r) g1) in
      subst (λ (i : Trees TagSaid). Segment doc at (length (empty ++ behind)) (Opens a e ∷ (spell rows i ++ (Closes e ∷ spell rows after)))) (sym z)
      (segment-join one two (length-append empty behind))

  -- any other
  pair : Laid rows inner → drop at doc ≡ (both ++ behind) ++ r → Segment doc at (length (both ++ behind)) said
  pair front g =
      let g1 = g ∙ append_assoc both behind r ∙ append_assoc start (inside ++ end_text e) (behind ++ r) in
      let one = start-tag doc at e h a t ((inside ++ end_text e) ++ (behind ++ r)) g1 in
      let g2 = passes doc at start ((inside ++ end_text e) ++ (behind ++ r)) g1 ∙ append_assoc inside (end_text e) (behind ++ r) in
      let two = front doc (at + length start) (end_text e ++ (behind ++ r)) g2 in
      let g3 = passes doc (at + length start) inside (end_text e ++ (behind ++ r)) g2 in
      let three = end-tag doc (at + length start + length inside) e h (behind ++ r) g3 in
      let four = back doc (at + length start + length inside + length (end_text e)) r (passes doc (at + length start + length inside) (end_text e) (behind ++ r) g3) in
      let l1 = length-append both behind in
      let l2 = length-append start (inside ++ end_text e) in
      let l3 = length-append inside (end_text e) in
      segment-join one (segment-join two (segment-join three four refl) refl) (omega (arith, l1, l2, l3))

  laid-element : (v : Bool) → (v ≡ true → inner ≡ none) → Laid rows inner → drop at doc ≡ (cond v empty both ++ behind) ++ r → Segment doc at (length (cond v empty both ++ behind)) said
  laid-element true z front g = single (z refl) g
  laid-element false z front g = pair front g

pub laid : (rows : List ℕ) (c : Trees TagSaid) → Writable rows c → Laid rows c
unfolding layout_of spell Writable
laid rows none w doc at r d = segment-none doc at
laid rows (element q a inner after) w doc at r d =
    laid-element rows (name_of (get_or rows q 0)) w.0 a w.1 inner after (laid rows after w.4) doc at r (asks_v (get_or rows q 0)) w.2 (laid rows inner w.3) d

-- ---- a document of the layout alone

-- no byte order mark and no declaration stand before a tag
plain-begin : (l : List ℕ) → name_start (byte l 0) ≡ true → begin (0x3C ∷ l) ≡ Ok 0
unfolding begin begin_after mark_len begins same byte name_start
plain-begin [] h = never h
plain-begin (c ∷ t) h =
    let f = start-range c h in
    rw (ne_eqb 0x3F c (λ z. omega (arith, z, f))) refl

begins-tag : (e : ℕ) (a : TagSaid) (close r : List ℕ) → HasName e → begin (tag_text e a close ++ r) ≡ Ok 0
begins-tag e a close r h = ap begin (tag-shape e a close r) ∙ plain-begin _ (name-starts (names-fine e h).0 (attributes_text a ++ (close ++ r)))

begins-element : (e : ℕ) (a : TagSaid) (v : Bool) (x y : List ℕ) → HasName e → begin (cond v (tag_text e a (text "/>")) (tag_text e a (text ">") ++ x) ++ y) ≡ Ok 0
begins-element e a true x y h = begins-tag e a (text "/>") y h
begins-element e a false x y h = ap begin (append_assoc (tag_text e a (text ">")) x y) ∙ begins-tag e a (text ">") (x ++ y) h

layout-begins : (rows : List ℕ) (c : Trees TagSaid) → Writable rows c → begin (layout_of rows c) ≡ Ok 0
unfolding layout_of Writable begin begin_after mark_len begins same
layout-begins rows none w = refl
layout-begins rows (element q a inner after) w =
    begins-element (name_of (get_or rows q 0)) a (asks_v (get_or rows q 0)) (layout_of rows inner ++ end_text (name_of (get_or rows q 0))) (layout_of rows after) w.0

items-over : (doc : List ℕ) (n : ℕ) → length doc ≤ n → items_from doc n ≡ []
unfolding items_from items_after
items-over doc n h = rw (drop_of_length-le doc h) refl

-- K6: "What is written is accepted by the reader": it spells the content that it was laid out from
pub layout-spells : (kind : ℕ) (c : Trees TagSaid) → Writable (rows_of kind) c → Spells (layout_of (rows_of kind) c) kind c
unfolding signs_of AllAllowed
layout-spells kind c w =
    let rows = rows_of kind in
    let doc = layout_of rows c in
    let s = laid rows c w doc 0 [] (sym (append-nil doc)) in
    let over : items_from doc (0 + length doc) ≡ [] = items-over doc (0 + length doc) (omega arith) in
    record {
      from = 0;
      begins = layout-begins rows c w;
      items = s.stands (subst AllAllowed (sym over) tt);
      tags = s.says ∙ ap (λ (l : List Placed). spell rows c ++ signs_of l) over ∙ append-nil (spell rows c);
    }

-- and so is accepted, given room, where the content is legal; answer and tables are those of the content
pub layout-accepted : (kind : ℕ) (c : Trees TagSaid) (ns np na : ℕ) (shape : Shape) (nb : ℕ) → 16 ≤ nb → length (layout_of (rows_of kind) c) ≤ 1048576
    → Writable (rows_of kind) c → Legal kind c → HasRoom (room_of ns np na) kind c
    → Tells (layout_of (rows_of kind) c) (read_of (layout_of (rows_of kind) c) ns np na shape nb) kind c
layout-accepted kind c ns np na shape nb wide small w = legal-accepted (layout_of (rows_of kind) c) ns np na shape nb wide small kind c (layout-spells kind c w)
