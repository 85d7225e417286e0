-- Two documents that differ in digits of readable Qty values alone get the same views, cell by cell. Assumes nothing.
use Prim.Native.Nat.{ℕ, ◌+◌, ◌≤◌}
use mathlib.Core.Path.{◌≡◌, refl, sym, ◌∙◌}
use mathlib.Core.List.{List}
use mathlib.Core.Bool.{Bool, true, false}
use mathlib.Core.Logic.{⊎_elim}
use native.Mathlib.Omega.{arith}
use lib.Dec.{eqb, ltb}
use lib.ListN.{length, get_or}
use borrow.Author.Tests.{eqb-true, ltb-false}
use Rattle.lists.specs.Zeros.{zeros}
use Rattle.lists.proofs.Cases.{bool_cases, never}
use Rattle.slices.specs.Part.{part_of}
use Rattle.slices.specs.Same.{same}
use Rattle.slices.specs.Text.{text}
use Rattle.slices.specs.declared.Span.{Span}
use Rattle.elements.specs.Names.{names, number_in, element_no}
use Rattle.structure.specs.Rows.{name_of}
use Rattle.columns.specs.Columns.{collapsed, role_of, form_of, scheme_of}
use Rattle.items.specs.declared.Tag.{Tag}
use Rattle.items.specs.declared.Item.{Item}
use Rattle.items.specs.declared.Item.TheVariants.{Start, Empty, End, Text, Comment, Unreadable}
use Rattle.tables.specs.Cells.{no_amounts}
use Rattle.guideline.specs.Rows.{beschaffungsanforderung, kostenblatt, network_constraint_document, rows_of}
use Rattle.guideline.proofs.Each.{each_table, of-table}
use Rattle.states.specs.Attributes.{asks_v, asks_scheme}
use Rattle.states.specs.Moves.{begun}
use Rattle.states.specs.declared.Room.{Room}
use Rattle.states.specs.declared.Entry.TheVariants.{Amount}
use Rattle.reader.specs.Items.{Placed, items_from}
use Rattle.reader.specs.Rows.{quoted}
use Rattle.reader.specs.Reading.{tab, Tables, refused_at, read_items, items_read}
use Rattle.reader.specs.Judging.{judged_after, judged_into, judged}
use Rattle.digits.specs.Outside.{AlikeFrom}
use Rattle.digits.proofs.Chars.{digits-unseen}
use Rattle.blindness.specs.Readable.{DifferInQty}
use Rattle.blindness.specs.Replaced.{Replaced}
use Rattle.blindness.proofs.Mixed.{between, first-replaced, second-replaced}
use Rattle.blindness.proofs.Aligned.{SameItems, aligned}
use Rattle.blindness.proofs.Pairs.{TagSays, Says, Aligned, over, pair, shut}
use Rattle.blindness.proofs.Steps.{qty-kinds}
use Rattle.blindness.proofs.Shown.{amounts-tabled}
use Rattle.blindness.proofs.Sources.{unsourced}
use Rattle.blindness.proofs.Runs.{run-same}
use Rattle.contents.specs.Spelled.{allowed, AllAllowed}
use Rattle.contents.proofs.Bridge.{forth}
use Rattle.views.specs.Layout.{values_of, row_named, view_room}
use Rattle.views.specs.Shown.{value_start, value_length, with_value, root_shown, v_shown, scheme_shown, tag_shown, tag_row, tag_counts, tag_shows, item_counts, item_shows, items_shown}
use Rattle.views.specs.Views.{shown_after, sheet_shown, sight_by, sheet_viewed}

abbrev qty : List ℕ
qty = text "Qty"

-- ---- a tag

-- no value of a Qty is shown
silent : List ℕ → Bool
silent rows = eqb (values_of (get_or rows (row_named (element_no qty) rows) 0)) 0

silent-all : each_table silent ≡ true
unfolding silent rows_of beschaffungsanforderung kostenblatt network_constraint_document element_no number_in names same row_named name_of values_of asks_v asks_scheme role_of form_of scheme_of
silent-all = refl

qty-silent : (kind : ℕ) → eqb (values_of (get_or (rows_of kind) (row_named (element_no qty) (rows_of kind)) 0)) 0 ≡ true
unfolding silent
qty-silent kind = of-table silent silent-all kind

value_same : (k : ℕ) (drops : Bool) (at : ℕ) (x : Span) (s s' t : List ℕ) → quoted x s ≡ quoted x s' → with_value k drops at x s t ≡ with_value k drops at x s' t
unfolding with_value value_start value_length
value_same k drops at x s s' t e = rw e refl

module _ (tag : Tag) (s s' : List ℕ) (p : TagSays qty (AlikeFrom false) tag s s') where
  row_same : (rows : List ℕ) → tag_row rows tag s ≡ tag_row rows tag s'
  unfolding tag_row
  row_same rows = rw p.parts.name refl

  named-row : (rows : List ℕ) → part_of s 1 tag.name ≡ qty → tag_row rows tag s ≡ row_named (element_no qty) rows
  unfolding tag_row
  named-row rows e = rw e refl

  coding-same : quoted tag.coding s ≡ quoted tag.coding s'
  unfolding quoted
  coding-same = p.parts.coding

  root-same : (k at : ℕ) (t : List ℕ) → root_shown k at tag.dtd s t ≡ root_shown k at tag.dtd s' t
  unfolding root_shown quoted
  root-same k at t =
      rw (
        value_same k false at tag.dtd.version s s' t p.parts.version,
        value_same (k + 1) false at tag.dtd.release s s' (with_value k false at tag.dtd.version s' t) p.parts.release,
      )
      (value_same (k + 2) false at tag.dtd.message s s' _ p.parts.message)

  scheme-same : (k at w : ℕ) (t : List ℕ) → scheme_shown k at w tag.coding s t ≡ scheme_shown k at w tag.coding s' t
  unfolding scheme_shown
  scheme-same k at w t = rw (value_same _ true at tag.coding s s' t coding-same) refl

  v-same : (k at w : ℕ) (t : List ℕ) → quoted tag.v s ≡ quoted tag.v s' → v_shown k at w tag.v s t ≡ v_shown k at w tag.v s' t
  unfolding v_shown
  v-same k at w t e = rw (value_same k (collapsed w) at tag.v s s' t e) refl

  shown-same : (k at w : ℕ) (t : List ℕ) → quoted tag.v s ≡ quoted tag.v s' → tag_shown k at w tag s t ≡ tag_shown k at w tag s' t
  unfolding tag_shown
  shown-same k at w t e = rw (root-same k at t, v-same k at w t e, scheme-same k at w (v_shown k at w tag.v s' t)) refl

  module _ (kind : ℕ) where
    abbrev rows : List ℕ
    rows = rows_of kind

    tag-counts : (n : ℕ) → tag_counts rows tag s n ≡ tag_counts rows tag s' n
    unfolding tag_counts
    tag-counts n = rw (row_same rows) refl

    tag-shows : (at n : ℕ) (t : List ℕ) → tag_shows rows at tag s n t ≡ tag_shows rows at tag s' n t
    unfolding tag_shows quoted
    tag-shows at n t =
        ⊎_elim
        (λ y. let e : tag_row rows tag s' ≡ row_named (element_no qty) rows = sym (row_same rows) ∙ named-row rows y.0 in rw (row_same rows, e, qty-silent kind) refl)
        (λ y. rw (row_same rows, shown-same _ at _ t y.1) refl)
        p.v

-- ---- an item, and the items

module _ (kind : ℕ) where
  item-counts : (i : Item) (s s' : List ℕ) → Says qty (AlikeFrom false) i s s' → (n : ℕ) → item_counts (rows_of kind) i s n ≡ item_counts (rows_of kind) i s' n
  unfolding Says item_counts
  item-counts (Start t) s s' p n = tag-counts t s s' p kind n
  item-counts (Empty t) s s' p n = tag-counts t s s' p kind n
  item-counts (End k e) s s' p n = refl
  item-counts (Text w e) s s' p n = refl
  item-counts (Comment e) s s' p n = refl
  item-counts (Unreadable q) s s' p n = refl

  item-shows : (at : ℕ) (i : Item) (s s' : List ℕ) → Says qty (AlikeFrom false) i s s' → (n : ℕ) (t : List ℕ)
      → item_shows (rows_of kind) at i s n t ≡ item_shows (rows_of kind) at i s' n t
  unfolding Says item_shows
  item-shows at (Start tag) s s' p n t = tag-shows tag s s' p kind at n t
  item-shows at (Empty tag) s s' p n t = tag-shows tag s s' p kind at n t
  item-shows at (End k e) s s' p n t = refl
  item-shows at (Text w e) s s' p n t = refl
  item-shows at (Comment e) s s' p n t = refl
  item-shows at (Unreadable q) s s' p n t = refl

  items-same : (x y : List ℕ) {xs ys : List Placed} → Aligned qty (AlikeFrom false) x y xs ys → AllAllowed xs → (n : ℕ) (t : List ℕ)
      → items_shown (rows_of kind) xs n t ≡ items_shown (rows_of kind) ys n t
  unfolding items_shown AllAllowed allowed
  items-same x y over a n t = refl
  items-same x y (shut at p s s') a n t = never a.0
  items-same x y (pair at i s s' ex ey p r) a n t = rw (item-counts i s s' p n, item-shows at i s s' p n t) (items-same x y r a.1 _ _)

-- ---- the whole

module _ (x y : List ℕ) (d : Replaced qty (AlikeFrom false) x y) (n : ℕ) where
  abbrev room : Room
  room = view_room n

  abbrev blank_tables : Tables
  blank_tables = tab (zeros n) (zeros 1) (no_amounts 1)

  module _ (h : SameItems qty (AlikeFrom false) x y) where
    found-same : (read_items x room (items_from x h.from) begun blank_tables).found ≡ (read_items y room (items_from y h.from) begun blank_tables).found
    found-same =
        (run-same qty (AlikeFrom false) Amount qty-kinds x y (amounts-tabled x y (AlikeFrom false)) room d.long h.items begun (zeros n) (zeros 1) (no_amounts 1) (no_amounts 1)
        (unsourced 1) ((amounts-tabled x y (AlikeFrom false)).none n)).0.found

    judged-same : judged room x n ≡ judged room y n
    unfolding judged judged_into judged_after items_read
    judged-same = rw (d.long, h.first, h.second, found-same) refl

    -- what an accepted document passed
    read_whole : (judged room x n).refusal ≡ 0 → (length x ≤ 1048576) × ((read_items x room (items_from x h.from) begun blank_tables).found.refusal ≡ 0)
    unfolding judged judged_into judged_after items_read refused_at
    read_whole e =
        ⊎_elim
        (λ (l : ltb 1048576 (length x) ≡ true). let z : ◌≡◌ {A = ℕ} 1 0 = rw l at e in absurd (omega (arith, z)))
        (λ (l : ltb 1048576 (length x) ≡ false). (ltb-false 1048576 (length x) l, rw (l, h.first) at e))
        (bool_cases (ltb 1048576 (length x)))

    sheet-same : (judged room x n).refusal ≡ 0 → (kind : ℕ) (t : List ℕ) → sheet_shown (rows_of kind) x t ≡ sheet_shown (rows_of kind) y t
    unfolding sheet_shown shown_after
    sheet-same e kind t =
        let w = read_whole e in
        let f = forth x room h.from blank_tables w.0 w.1 in
        rw (h.first, h.second) (items-same kind x y h.items f.2.allowed 0 t)

    sight-same : sight_by x n (judged room x n) ≡ sight_by y n (judged room y n)
    unfolding sight_by
    sight-same =
        ⊎_elim
        (λ z. let e = eqb-true (judged room x n).refusal 0 z in rw (sheet-same e (judged room x n).kind (zeros n), judged-same) refl)
        (λ z. rw (z, rw judged-same at z, judged-same) refl)
        (bool_cases (eqb (judged room x n).refusal 0))

  replaced-views : sheet_viewed x n ≡ sheet_viewed y n
  unfolding sheet_viewed
  replaced-views = ⊎_elim (λ e. rw e refl) (λ h. rw (sight-same h) refl) (aligned qty digits-unseen x y d)

-- "two documents that differ in readable Qty digits get the same views, cell by cell", and the same answer
pub views-alone : (x y : List ℕ) → DifferInQty x y → (n : ℕ) → sheet_viewed x n ≡ sheet_viewed y n
views-alone x y d n = replaced-views x (between x y d) (first-replaced x y d) n ∙ sym (replaced-views y (between x y d) (second-replaced x y d) n)
