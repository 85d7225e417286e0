-- What was read back is lent again, and written to the same bytes. Assumes nothing.
use Prim.Native.Nat.{ℕ, zero, suc, ◌+◌, ◌*◌, ◌≤◌, ◌<◌}
use mathlib.Core.Path.{◌≡◌, refl, ap, ◌∙◌}
use mathlib.Core.List.{List, append-nil}
use mathlib.Core.Bool.{true, cond}
use native.Mathlib.Omega.{arith}
use native.Mathlib.Nat.{add-zero}
use lib.Dec.{eqb}
use lib.ListN.{length, drop, take, length-append}
use Rattle.notes.specs.declared.Shape.{Shape}
use Rattle.columns.specs.Columns.{series_role, interval_role}
use Rattle.guideline.specs.Rows.{rows_of}
use Rattle.series.specs.Row.{field_at}
use Rattle.series.specs.declared.Field.TheVariants.{FirstRow, Count}
use Rattle.reader.specs.Reading.{room_of}
use Rattle.reader.specs.Answer.{Outcome}
use Rattle.contents.specs.Legal.{has_role, those, HasRoom}
use Rattle.contents.specs.Shown.{sum}
use Rattle.promises.proofs.Answers.{rows-kept}
use Rattle.views.specs.Layout.{header_pairs, series_pairs, cell_of, view_room}
use Rattle.views.specs.Views.{sheet_viewed}
use Rattle.drafts.specs.Draft.{Draft, role_row, pair_for, singles_in, period_tree, series_from, draft_content, draft_document, pair_fits, Lent}
use Rattle.drafts.specs.Judged.{draft_legal}
use Rattle.drafts.specs.Written.{written_of}
use Rattle.drafts.proofs.Elements.{Roles, roles, singles-those}
use Rattle.drafts.proofs.Legal.{plain-intervals, series-counted}
use Rattle.drafts.proofs.Promises.{outcome, draft-read}
use Rattle.fitting.proofs.Lent.{lent-exactly}
use Rattle.writings.specs.Again.{MadeOf, NoneDropped}
use Rattle.writings.proofs.Texts.{draft-series}
use Rattle.writings.proofs.Again.{counts_in, first_back, again-written}

-- ---- as many rows are read back as there are

most-taken : (i n j : ℕ) (d : Draft) → j < n → sum (take j (counts_in d i n)) + field_at d.series (i + j) Count ≤ sum (counts_in d i n)
unfolding counts_in sum
most-taken i zero j d h = absurd (omega (arith, h))
most-taken i (suc n) zero d h = rw (add-zero i) (omega arith)
most-taken i (suc n) (suc j) d h =
    let e : suc i + j ≡ i + suc j = omega arith in
    let m : sum (take j (counts_in d (suc i) n)) + field_at d.series (i + suc j) Count ≤ sum (counts_in d (suc i) n) = rw e at (most-taken (suc i) n j d (omega (arith, h))) in
    omega (arith, m)

module _ (d : Draft) (kind : cond (eqb d.kind 1) true (eqb d.kind 2) ≡ true) where
  abbrev rows : List ℕ
  rows = rows_of d.kind

  abbrev r : Roles rows
  r = roles d.kind kind

  series-rows : (i n : ℕ) → length (those (has_role interval_role) rows (series_from d rows i n)) ≡ sum (counts_in d i n)
  unfolding series_from those counts_in sum
  series-rows i zero = refl
  series-rows i (suc n) =
      let a = those (has_role interval_role) rows (singles_in d rows (role_row series_role rows) i (period_tree d rows i)) in
      let b = those (has_role interval_role) rows (series_from d rows (suc i) n) in
      rw r.series (length-append a b ∙ rw (series-counted d rows r i, series-rows (suc i) n) refl)

  draft-rows : length (those (has_role interval_role) rows (draft_content d)) ≡ sum (counts_in d 0 d.count)
  unfolding draft_content singles_in those
  draft-rows =
      rw r.root
      (ap length (append-nil _ ∙ singles-those (has_role interval_role) d rows (series_from d rows 0 d.count) (drop 2 rows) 2 (pair_for rows 2 0) refl (plain-intervals d rows r (drop 2 rows) r.in-header).1)
      ∙ series-rows 0 d.count)

module _ (d g : Draft) (l : Lent d) (fit : draft_legal d ≡ true) (ns np na : ℕ) (shape : Shape) (nb : ℕ) (noted : 16 ≤ nb) (small : length (draft_document d) ≤ 1048576)
    (room : HasRoom (room_of ns np na) d.kind (draft_content d)) (n : ℕ) (wide : cell_of header_pairs ≤ n) (shown : d.count ≤ (view_room n).series) where
  abbrev doc : List ℕ
  doc = draft_document d

  abbrev o : Outcome
  o = outcome d l fit ns np na shape nb noted small room

  abbrev t : List ℕ
  t = (sheet_viewed doc n).table

  rows_inside : (i : ℕ) → i < d.count
      → (field_at o.tables.series i FirstRow + field_at o.tables.series i Count ≤ length o.tables.positions)
      × (field_at o.tables.series i FirstRow + field_at o.tables.series i Count ≤ length o.tables.amounts)
  rows_inside i h =
      let b = first_back d d l fit ns np na shape nb noted small room n wide shown i h in
      let b0 = b.0 in
      let b1 = b.1 in
      let z : 0 + i ≡ i = omega arith in
      let m : sum (take i (counts_in d 0 d.count)) + field_at d.series i Count ≤ sum (counts_in d 0 d.count) = rw z at (most-taken 0 d.count i d h) in
      let e = (draft-read d l fit ns np na shape nb noted small room).intervals in
      let f = draft-rows d l.kind in
      let k = rows-kept doc ns np na shape nb in
      let p = k.0.position-rows in
      let a = k.0.amount-rows in
      let s = k.1.positions in
      let u = k.1.amounts in
      (omega (arith, b0, b1, m, e, f, p, s), omega (arith, b0, b1, m, e, f, a, u))

  -- the reader's tables are lent again, with any text and pairs that are
  pub again-lent : MadeOf g doc o t → cell_of (header_pairs + series_pairs * g.count) ≤ length g.pairs → ((k : ℕ) → suc k ≤ header_pairs + series_pairs * g.count → pair_fits g k ≡ true)
      → Lent g
  again-lent made pairs values =
      let kinds = made.kind ∙ (draft-read d l fit ns np na shape nb noted small room).kinds in
      let count = made.count ∙ (draft-read d l fit ns np na shape nb noted small room).series ∙ draft-series d l.kind in
      let k = rows-kept doc ns np na shape nb in
      let s = k.0.series-rows in
      let u = k.1.series in
      let e = made.count in
      record {
        kind = rw kinds l.kind;
        pairs = pairs;
        values = values;
        series = rw made.series (omega (arith, s, u, e));
        rows = λ i h. let b = rows_inside i (omega (arith, h, count)) in record { positions = rw (made.series, made.positions) b.0; amounts = rw (made.series, made.amounts) b.1 };
      }

  -- writing what was read back: the same answer, and the same bytes in an output of m bytes
  pub written_back : MadeOf g doc o t → NoneDropped d → cell_of (header_pairs + series_pairs * g.count) ≤ length g.pairs
      → ((k : ℕ) → suc k ≤ header_pairs + series_pairs * g.count → pair_fits g k ≡ true) → (m : ℕ) → written_of g m ≡ written_of d m
  written_back made kept pairs values m =
      again-written d g l fit ns np na shape nb noted small room n wide shown made kept ((lent-exactly d).1 l) ((lent-exactly g).1 (again-lent made pairs values)) m
