-- What holds of a draft and of its document. Assumes nothing.
--     fit-exactly      a draft of the two kinds is judged fit exactly where its content is legal
--     draft-read       its document is accepted, given room, where the draft is judged fit and all that it shows is lent; answer and tables are those of its content
--     positions-back   the tables have its positions,
--     amounts-back     and its amounts
use Prim.Native.Nat.{ℕ, zero, suc, ◌+◌, ◌≤◌, ◌<◌}
use mathlib.Core.Path.{◌≡◌, refl, sym, ap, ◌∙◌}
use mathlib.Core.List.{List, [], ◌∷◌, ◌++◌, map}
use mathlib.Core.Bool.{Bool, true, false, cond, ◌&&◌, and-eq-true_iff}
use native.Mathlib.Omega.{arith}
use lib.Dec.{eqb, leb, ltb}
use lib.IntN.{ℤ, pos, nat_abs}
use lib.ListN.{length, drop, get_or}
use Rattle.notes.specs.declared.Shape.{Shape}
use Rattle.columns.specs.Columns.{pos_role, qty_role}
use Rattle.guideline.specs.Rows.{rows_of}
use Rattle.series.specs.Row.{field_at}
use Rattle.series.specs.declared.Field.TheVariants.{FirstRow, Count}
use Rattle.numbers.specs.Amount.{amount_of}
use Rattle.reader.specs.Rows.{thousandths_of}
use Rattle.reader.specs.Reading.{room_of}
use Rattle.reader.specs.Answer.{Outcome, read_of}
use Rattle.contents.specs.Said.{TagSaid, bytes}
use Rattle.contents.specs.Legal.{has_role, those, Period, period_of, quarters_of, position_of, element_fits, Legal, HasRoom, identifications}
use Rattle.contents.specs.Shown.{amount_in, Tells}
use Rattle.amounts.specs.Texts.{amount_text}
use Rattle.amounts.proofs.Promises.{amount-in-value}
use Rattle.layouts.proofs.Spelling.{layout-accepted}
use Rattle.drafts.specs.Draft.{Draft, number_tag, root_tag, pair_for, draft_content, draft_document, Lent}
use Rattle.drafts.specs.Judged.{singles_fit, positions_in, all_written, amounts_fit, every_series, all_apart, draft_legal, amounts_in, positions_of, amounts_of}
use Rattle.drafts.proofs.Writing.{draft-writable}
use Rattle.drafts.proofs.Elements.{pos_tag, qty_tag, drawn, drawn_from, draft-those, positions-inside, amounts-inside, roles}
use Rattle.drafts.proofs.Legal.{TagsFit, tags-fit, Series, every-told, written-positions, ltb-holds, draft-legal}
use Rattle.drafts.proofs.Complete.{legal-draft}

map-append : {A B : Type 0} (f : A → B) (l m : List A) → map f (l ++ m) ≡ map f l ++ map f m
map-append f [] m = refl
map-append f (x ∷ l) m = ap (λ (r : List _). f x ∷ r) (map-append f l m)

amounts-written : (d : Draft) (j n : ℕ) → amounts_fit d j n ≡ true → map amount_in (drawn d (qty_tag d) j n) ≡ amounts_in d j n
unfolding amounts_fit amounts_in drawn amount_in number_tag bytes thousandths_of
amounts-written d j zero h = refl
amounts-written d j (suc n) h =
    let m = get_or d.amounts j (pos 0) in
    let a = (and-eq-true_iff (ltb (nat_abs m) 1000000000000000) _).0 h in
    rw (amount-in-value m (ltb-holds _ _ a.0)) (ap (λ (l : List ℤ). m ∷ l) (amounts-written d (suc j) n a.1))

module _ (d : Draft) (rows : List ℕ) (p : Period) (t : TagsFit d.kind rows) where
  positions-from : (i n : ℕ) → ((j : ℕ) → i ≤ j → j < i + n → Series d rows p t j) → map position_of (drawn_from d (pos_tag d) i n) ≡ positions_of d i n
  unfolding drawn_from positions_of
  positions-from i zero w = refl
  positions-from i (suc n) w =
      let here = w i (omega arith) (omega arith) in
      map-append position_of (drawn d (pos_tag d) (field_at d.series i FirstRow) (field_at d.series i Count)) (drawn_from d (pos_tag d) (suc i) n)
      ∙ rw (written-positions d (field_at d.series i FirstRow) (field_at d.series i Count) here.written, positions-from (suc i) n (λ j l h. w j (omega arith) (omega arith))) refl

  amounts-from : (i n : ℕ) → ((j : ℕ) → i ≤ j → j < i + n → Series d rows p t j) → map amount_in (drawn_from d (qty_tag d) i n) ≡ amounts_of d i n
  unfolding drawn_from amounts_of
  amounts-from i zero w = refl
  amounts-from i (suc n) w =
      let here = w i (omega arith) (omega arith) in
      map-append amount_in (drawn d (qty_tag d) (field_at d.series i FirstRow) (field_at d.series i Count)) (drawn_from d (qty_tag d) (suc i) n)
      ∙ rw (amounts-written d (field_at d.series i FirstRow) (field_at d.series i Count) here.amounts, amounts-from (suc i) n (λ j l h. w j (omega arith) (omega arith))) refl

-- "refuses exactly when no document of these kinds, length and room left aside, would be accepted with the given content": the judgement is that of `Legal`
pub fit-exactly : (d : Draft) → cond (eqb d.kind 1) true (eqb d.kind 2) ≡ true
    → (draft_legal d ≡ true → Legal d.kind (draft_content d)) × (Legal d.kind (draft_content d) → draft_legal d ≡ true)
fit-exactly d kind = (draft-legal d kind, legal-draft d kind)

module _ (d : Draft) (l : Lent d) (fit : draft_legal d ≡ true) where
  told : (j : ℕ) → 0 ≤ j → j < 0 + d.count → Series d (rows_of d.kind) (period_of (rows_of d.kind) (draft_content d)) (tags-fit d.kind l.kind) j
  unfolding draft_legal
  told =
      let rows = rows_of d.kind in
      let p = period_of rows (draft_content d) in
      let x = element_fits d.kind p (get_or rows 1 0) (root_tag d) && singles_fit d p (pair_for rows 2 0) (drop 2 rows) && leb 1 d.count in
      let a = (and-eq-true_iff (x && every_series d rows p 0 d.count) (all_apart (identifications rows (draft_content d)))).0 fit in
      every-told d rows p (tags-fit d.kind l.kind) 0 d.count ((and-eq-true_iff x (every_series d rows p 0 d.count)).0 a.0).1

  module _ (ns np na : ℕ) (shape : Shape) (nb : ℕ) (wide : 16 ≤ nb) (small : length (draft_document d) ≤ 1048576) (room : HasRoom (room_of ns np na) d.kind (draft_content d)) where
    abbrev pub outcome : Outcome
    outcome = read_of (draft_document d) ns np na shape nb

    -- "What is written is accepted by the reader given room"
    pub draft-read : Tells (draft_document d) outcome d.kind (draft_content d)
    unfolding draft_document
    draft-read = layout-accepted d.kind (draft_content d) ns np na shape nb wide small (draft-writable d l) (draft-legal d l.kind fit) room

    -- "and gives back the same positions,
    pub positions-back : (j : ℕ) → get_or outcome.tables.positions j 0 ≡ get_or (positions_of d 0 d.count) j 0
    positions-back j =
        let rows = rows_of d.kind in
        draft-read.tables.positions j
        ∙ ap (λ (x : List ℕ). get_or x j 0)
        (ap (map position_of) (draft-those d (has_role pos_role) (pos_tag d) (positions-inside d rows (roles d.kind l.kind))) ∙ positions-from d rows _ (tags-fit d.kind l.kind) 0 d.count told)

    -- amounts"
    pub amounts-back : (j : ℕ) → get_or outcome.tables.amounts j (pos 0) ≡ get_or (amounts_of d 0 d.count) j (pos 0)
    amounts-back j =
        let rows = rows_of d.kind in
        draft-read.tables.amounts j
        ∙ ap (λ (x : List ℤ). get_or x j (pos 0))
        (ap (map amount_in) (draft-those d (has_role qty_role) (qty_tag d) (amounts-inside d rows (roles d.kind l.kind))) ∙ amounts-from d rows _ (tags-fit d.kind l.kind) 0 d.count told)
