-- What is promised of totals of what the reader leaves. Assumes nothing.
--     never-18           the tables of an accepted document of at most 200 series are not refused
--     totals-of-content  and their totals are those of the content that the document spells
--     sheet-never-18, sheet-totals   a sheet that is one
use Prim.Native.Nat.{ℕ, ◌≤◌}
use mathlib.Core.Path.{◌≡◌, refl, sym, ap, ◌∙◌}
use mathlib.Core.List.{List, [], ◌∷◌}
use mathlib.Core.Bool.{true}
use native.Mathlib.Omega.{arith}
use native.Mathlib.Nat.{div-add-mod', mod-lt}
use borrow.Author.Tests.{le-ltb}
use lib.IntN.{pos}
use lib.ListN.{length}
use Rattle.series.specs.Row.{row_width, cells_of, room_for}
use Rattle.columns.specs.Columns.{series_role, interval_role}
use Rattle.guideline.specs.Rows.{rows_of}
use Rattle.reader.specs.Reading.{room_of}
use Rattle.reader.specs.Answer.{Outcome, read_of}
use Rattle.notes.specs.declared.Shape.{Shape}
use Rattle.notes.specs.declared.Shape.TheVariants.{Old}
use Rattle.trees.specs.Trees.{Trees}
use Rattle.totals.specs.Rules.{Handed, handed, most_series, own_of, is_allowed, totals_refusal}
use Rattle.totals.specs.Totals.{standing, values_from, added, last_quarter, rows_total, series_total, each_total}
use Rattle.contents.specs.Said.{TagSaid}
use Rattle.contents.specs.Spelled.{Spells}
use Rattle.contents.specs.Legal.{has_role, those, period_of, quarters_of, Legal, HasRoom}
use Rattle.contents.specs.Shown.{Tells}
use Rattle.contents.specs.Totals.{content_totals, read_tables}
use Rattle.contents.proofs.Theorems.{accepted-legal, legal-accepted}
use Rattle.contents.proofs.Totals.{never-refused, as-content}
use Rattle.promises.specs.Rows.{InRoom, Sized}
use Rattle.promises.specs.Sheet.{sheet}
use Rattle.promises.proofs.Answers.{rows-kept}
use Rattle.promises.proofs.Examples.{sheet-read, sheet-short, sheet-accepted}

whole-rows : (n m : ℕ) → cells_of n ≤ m → n ≤ room_for m
whole-rows n m h = omega (arith, h, div-add-mod' m row_width, mod-lt m {m = row_width} (omega arith))

module _ (doc : List ℕ) (ns np na : ℕ) (shape : Shape) (nb : ℕ) (wide : 16 ≤ nb) (small : length doc ≤ 1048576) where
  abbrev o : Outcome
  o = read_of doc ns np na shape nb

  module _ (kind : ℕ) (c : Trees TagSaid) (spells : Spells doc kind c) (legal : Legal kind c) (room : HasRoom (room_of ns np na) kind c) where
    abbrev tells : Tells doc o kind c
    tells = legal-accepted doc ns np na shape nb wide small kind c spells legal room

    abbrev shown : Handed
    shown =
        handed kind (quarters_of (period_of (rows_of kind) c)) (length (those (has_role series_role) (rows_of kind) c)) o.tables.series o.tables.positions o.tables.amounts

    read_is : read_tables o ≡ shown
    unfolding read_tables
    read_is = let t = tells in rw (t.kinds, t.quarters, t.series) refl

    series-room : length (those (has_role series_role) (rows_of kind) c) ≤ room_for (length o.tables.series)
    series-room =
        let k = rows-kept doc ns np na shape nb in
        let a = k.0.series-rows in
        let b = k.1.series in
        let e = tells.series in
        rw b (whole-rows (length (those (has_role series_role) (rows_of kind) c)) ns (omega (arith, a, e)))

    in-positions : length (those (has_role interval_role) (rows_of kind) c) ≤ length o.tables.positions
    in-positions =
        let k = rows-kept doc ns np na shape nb in
        let a = k.0.position-rows in
        let b = k.1.positions in
        let e = tells.intervals in
        omega (arith, a, b, e)

    in-amounts : length (those (has_role interval_role) (rows_of kind) c) ≤ length o.tables.amounts
    in-amounts =
        let k = rows-kept doc ns np na shape nb in
        let a = k.0.amount-rows in
        let b = k.1.amounts in
        let e = tells.intervals in
        omega (arith, a, b, e)

    allowed : is_allowed (read_tables o) ≡ true
    allowed = ap is_allowed read_is ∙ never-refused kind c legal doc o.tables tells.tables series-room in-positions in-amounts

    -- "their totals are those of the content": of each series the sum over the quarter hours of the amount that stands there
    pub totals-of-content : each_total (read_tables o) ≡ content_totals kind c
    totals-of-content = ap each_total read_is ∙ as-content kind c legal doc o.tables tells.tables series-room in-positions in-amounts

  -- the tables that the reader leaves for an accepted document of at most 200 series are never 18
  pub never-18 : o.answer.refusal ≡ 0 → o.answer.series ≤ most_series → totals_refusal (read_tables o) ≡ 0
  unfolding totals_refusal read_tables
  never-18 z m =
      let a = accepted-legal doc ns np na shape nb wide small z in
      let h = few m in
      rw (le-ltb most_series (read_tables o).count h, allowed a.0 a.1 a.2 a.3 a.4) refl
    where
      few : o.answer.series ≤ most_series → (read_tables o).count ≤ most_series
      few m = m

-- there is such a document: the sheet, whose two series have 1.500 in both quarter hours, and -0.001 and 20
pub sheet-never-18 : totals_refusal (read_tables (read_of sheet 25 4 4 Old 16)) ≡ 0
sheet-never-18 =
    never-18 sheet 25 4 4 Old 16 (omega arith) sheet-short sheet-accepted
    (let s : (read_of sheet 25 4 4 Old 16).answer.series ≡ 2 = ap (λ (o : Outcome). o.answer.series) sheet-read in omega (arith, s))

pub sheet-totals : each_total (read_tables (read_of sheet 25 4 4 Old 16)) ≡ pos 3000 ∷ pos 19999 ∷ []
unfolding read_tables each_total series_total rows_total last_quarter standing values_from added own_of
sheet-totals = ap (λ (o : Outcome). each_total (read_tables o)) sheet-read
