-- A draft is told fit exactly where it is lent and its content is legal. Assumes nothing.
--     told-exactly   how the code tells it is what the contract says
--     fits-exactly   which is that all is lent, by `Lent` (`lent-exactly` of Lent.antt), and that the content is legal, by `Legal`
use Prim.Native.Nat.{ℕ, ◌+◌, ◌*◌, ◌<◌}
use mathlib.Core.Path.{◌≡◌, refl, sym, ap, ◌∙◌, subst}
use mathlib.Core.List.{List}
use mathlib.Core.Bool.{Bool, true, false, cond, ◌&&◌, and-eq-true_iff}
use native.Mathlib.Omega.{arith}
use lib.Dec.{leb}
use lib.IntN.{ℤ}
use lib.ListN.{length, drop, get_or}
use Rattle.lists.proofs.Cases.{both_true, never}
use Rattle.characters.specs.Says.{all_chars}
use Rattle.guideline.specs.Rows.{rows_of}
use Rattle.std.specs.Prelude.{Option, Some, None}
use Rattle.views.specs.Layout.{header_pairs, series_pairs, first_pair, cell_of}
use Rattle.contents.specs.Legal.{Period, period_of, element_fits, identifications, Legal}
use Rattle.drafts.specs.Draft.{Draft, root_tag, pair_for, draft_content, pair_fits, Lent}
use Rattle.drafts.specs.Judged.{singles_fit, every_series, all_apart, draft_legal}
use Rattle.drafts.proofs.Legal.{tags-fit, every-told as each-series}
use Rattle.drafts.proofs.Promises.{fit-exactly}
use Rattle.drafts.specs.Fit.{draft_of, is_written, pairs_fit, rows_fit, is_lent, draft_fits}
use Rattle.fitting.specs.Told.{texts_told, singles_told, root_told, covered_pair, covered_at, covered_told, id_of, every_told, count_lent, sheet_by, sheet_told, fit_told}
use Rattle.fitting.proofs.Value.{pair-legal}
use Rattle.fitting.proofs.Singles.{through-told, through-once}
use Rattle.fitting.proofs.Laid.{Sheet, sheet}
use Rattle.fitting.proofs.Covered.{covered-fits, covered-period, root-told, ids-said}
use Rattle.fitting.proofs.Apart.{both_ways, fresh_from, fresh-apart}
use Rattle.fitting.proofs.Series.{every-told}
use Rattle.fitting.proofs.Lent.{both_so, texts-told, pairs-each, lent-parts, parts-lent, lent-exactly, room-told}

-- ---- where each pair that is counted fits

module _ (d : Draft) (written : is_written d.kind ≡ true) (fits : (j : ℕ) → j < header_pairs + series_pairs * d.count → pair_fits d j ≡ true) where
  abbrev rows : List ℕ
  rows = rows_of d.kind

  abbrev lies : Sheet d.kind rows
  lies = sheet d.kind written

  header-told : (p : Period) → singles_told d.kind p.start p.end d.text d.pairs 3 (drop 2 rows) ≡ singles_fit d p (pair_for rows 2 0) (drop 2 rows)
  unfolding pair_for
  header-told p =
      let place : 3 ≡ first_pair rows 2 + series_pairs * 0 = let e = lies.laid.header-first in omega (arith, e) in
      through-told d p header_pairs 0 (λ j l. fits j (omega (arith, l))) (drop 2 rows) 3 lies.laid.header
      ∙ through-once d p (drop 2 rows) 3 lies.laid.header-ends
      ∙ ap (λ (k : ℕ). singles_fit d p k (drop 2 rows)) place

  id-legal : (j : ℕ) → j < d.count → all_chars (id_of d.text d.pairs j) ≡ true
  unfolding id_of
  id-legal j l = pair-legal d (header_pairs + series_pairs * j) (fits (header_pairs + series_pairs * j) (omega arith))

  fresh-said : (p : Period) → every_series d rows p 0 d.count ≡ true → fresh_from d.text d.pairs 0 d.count ≡ all_apart (identifications rows (draft_content d))
  unfolding is_written
  fresh-said p h =
      fresh-apart d d.count id-legal
      ∙ ap all_apart
      (sym (ids-said d p lies.laid lies.identified (λ j l. (each-series d rows p (tags-fit d.kind written) 0 d.count h j (omega arith) (omega arith)).singles)))

  -- what the code tells by a period
  abbrev sheet_for : Period → Bool
  sheet_for p =
      cond (root_told d.kind d.text d.pairs)
      (cond (singles_told d.kind p.start p.end d.text d.pairs 3 (drop 2 rows))
      (every_told d.kind p.start p.end d.text d.pairs rows d.series d.positions d.amounts 0 d.count) false)
      false

  -- and what is judged by it
  pub record Parts (p : Period) : Type 0 where
    pub root : element_fits d.kind p (get_or rows 1 0) (root_tag d) ≡ true
    pub singles : singles_fit d p (pair_for rows 2 0) (drop 2 rows) ≡ true
    pub lent : rows_fit d 0 d.count ≡ true
    pub series : every_series d rows p 0 d.count ≡ true
    pub apart : all_apart (identifications rows (draft_content d)) ≡ true

  root-so : (p : Period) → root_told d.kind d.text d.pairs ≡ element_fits d.kind p (get_or rows 1 0) (root_tag d)
  root-so p = root-told d p lies.rooted (fits 2 (omega arith))

  every-so : (p : Period) → every_told d.kind p.start p.end d.text d.pairs rows d.series d.positions d.amounts 0 d.count
      ≡ (rows_fit d 0 d.count && every_series d rows p 0 d.count && fresh_from d.text d.pairs 0 d.count)
  every-so p = every-told d p rows lies.laid 0 d.count (λ j l. fits j (omega (arith, l)))

  parts : (p : Period) → sheet_for p ≡ true → Parts p
  parts p h =
      let a = both_true (root_told d.kind d.text d.pairs) h in
      let b = both_true (singles_told d.kind p.start p.end d.text d.pairs 3 (drop 2 rows)) a.1 in
      let c = (and-eq-true_iff (rows_fit d 0 d.count && every_series d rows p 0 d.count) (fresh_from d.text d.pairs 0 d.count)).0 (sym (every-so p) ∙ b.1) in
      let e = (and-eq-true_iff (rows_fit d 0 d.count) (every_series d rows p 0 d.count)).0 c.0 in
      record { root = sym (root-so p) ∙ a.0; singles = sym (header-told p) ∙ b.0; lent = e.0; series = e.1; apart = sym (fresh-said p e.1) ∙ c.1 }

  whole : (p : Period) → Parts p → sheet_for p ≡ true
  whole p w =
      let every =
      every-so p
      ∙ both_so (rows_fit d 0 d.count && every_series d rows p 0 d.count) (fresh_from d.text d.pairs 0 d.count)
      (both_so (rows_fit d 0 d.count) (every_series d rows p 0 d.count) w.lent w.series) (fresh-said p w.series ∙ w.apart) in
      rw (root-so p ∙ w.root, header-told p ∙ w.singles, every) refl

  -- ---- by the period of the draft

  abbrev period : Period
  period = period_of rows (draft_content d)

  covered-so : (from to : ℕ) → covered_told d.text d.pairs rows ≡ Some (from, to) → period ≡ record { start = from; end = to }
  covered-so from to e = covered-period d lies.laid lies.covers (λ j l. fits j (omega (arith, l))) from to e

  sheet-parts : sheet_told d.kind rows d.text d.pairs d.count d.series d.positions d.amounts ≡ true → Parts period
  unfolding sheet_told sheet_by
  sheet-parts h = by (covered_told d.text d.pairs rows) refl
    where
      by : (x : Option (ℕ × ℕ)) → covered_told d.text d.pairs rows ≡ x → Parts period
      by (Some (from, to)) e = subst Parts (sym (covered-so from to e)) (parts (record { start = from; end = to }) (rw e at h))
      by None e = never (rw e at h)

  parts-sheet : Parts period → sheet_told d.kind rows d.text d.pairs d.count d.series d.positions d.amounts ≡ true
  unfolding sheet_told sheet_by covered_told
  parts-sheet w = by (covered_at d.text d.pairs (covered_pair 3 (drop 2 rows))) refl
    where
      by : (x : Option (ℕ × ℕ)) → covered_at d.text d.pairs (covered_pair 3 (drop 2 rows)) ≡ x
          → sheet_told d.kind rows d.text d.pairs d.count d.series d.positions d.amounts ≡ true
      by (Some (from, to)) e = rw e (whole (record { start = from; end = to }) (subst Parts (covered-so from to e) w))
      by None e =
          absurd (covered-fits d.kind period.start period.end d.text d.pairs (drop 2 rows) 3 lies.covers.there (header-told period ∙ w.singles) e)

-- ---- the whole

module _ (d : Draft) where
  abbrev pairs_counted : ℕ
  pairs_counted = header_pairs + series_pairs * d.count

  all-fit : pairs_fit d 0 pairs_counted ≡ true → (j : ℕ) → j < pairs_counted → pair_fits d j ≡ true
  all-fit h j l = pairs-each d 0 pairs_counted h j (omega arith) (omega (arith, l))

  told-fits : fit_told d.kind d.text d.pairs d.count d.series d.positions d.amounts ≡ true → draft_fits d ≡ true
  unfolding fit_told count_lent draft_fits draft_legal
  told-fits h =
      let rows = rows_of d.kind in
      let p = period_of rows (draft_content d) in
      let a = both_true (is_written d.kind) h in
      let b = both_true (count_lent (length d.pairs) d.count (length d.series)) a.1 in
      let c = both_true (texts_told d.text d.pairs 0 pairs_counted) b.1 in
      let x = both_true (leb 1 d.count) b.0 in
      let y = both_true (leb (cell_of pairs_counted) (length d.pairs)) x.1 in
      let texts = sym (texts-told d 0 pairs_counted) ∙ c.0 in
      let w = sheet-parts d a.0 (all-fit texts) c.1 in
      let lent = parts-lent d (record { written = a.0; pairs = y.0; texts = texts; series = sym (room-told d.count (length d.series)) ∙ y.1; rows = w.lent }) in
      rw (lent, w.root, w.singles, x.0, w.series, w.apart) refl

  fits_told : draft_fits d ≡ true → fit_told d.kind d.text d.pairs d.count d.series d.positions d.amounts ≡ true
  unfolding fit_told count_lent draft_fits draft_legal
  fits_told h =
      let rows = rows_of d.kind in
      let p = period_of rows (draft_content d) in
      let a = (and-eq-true_iff (is_lent d) (draft_legal d)).0 h in
      let l = lent-parts d a.0 in
      let x1 = element_fits d.kind p (get_or rows 1 0) (root_tag d) in
      let x2 = singles_fit d p (pair_for rows 2 0) (drop 2 rows) in
      let x3 = leb 1 d.count in
      let x4 = every_series d rows p 0 d.count in
      let t4 = (and-eq-true_iff (x1 && x2 && x3 && x4) (all_apart (identifications rows (draft_content d)))).0 a.1 in
      let t3 = (and-eq-true_iff (x1 && x2 && x3) x4).0 t4.0 in
      let t2 = (and-eq-true_iff (x1 && x2) x3).0 t3.0 in
      let t1 = (and-eq-true_iff x1 x2).0 t2.0 in
      let told =
      parts-sheet d l.written (all-fit l.texts) (record { root = t1.0; singles = t1.1; lent = l.rows; series = t3.1; apart = t4.1 }) in
      rw (l.written, t2.1, l.pairs, room-told d.count (length d.series), l.series, texts-told d 0 pairs_counted, l.texts) told

  -- "refuses exactly when no document of these kinds, length and room left aside, would be accepted with the given content", and "pairs or rows past what is lent too"
  pub fits-exactly : (draft_fits d ≡ true → Lent d × Legal d.kind (draft_content d)) × (Lent d × Legal d.kind (draft_content d) → draft_fits d ≡ true)
  unfolding draft_fits
  fits-exactly = (
    λ h.
        let a = (and-eq-true_iff (is_lent d) (draft_legal d)).0 h in
        let l = (lent-exactly d).0 a.0 in
        (l, (fit-exactly d l.kind).0 a.1),
    λ w. both_so (is_lent d) (draft_legal d) ((lent-exactly d).1 w.0) ((fit-exactly d w.0.kind).1 w.1),
  )

-- how the code tells it is what the contract says
pub told-exactly : (kind : ℕ) (text pairs : List ℕ) (count : ℕ) (series positions : List ℕ) (amounts : List ℤ)
    → fit_told kind text pairs count series positions amounts ≡ draft_fits (draft_of kind text pairs count series positions amounts)
told-exactly kind text pairs count series positions amounts =
    let d = draft_of kind text pairs count series positions amounts in
    both_ways (fit_told kind text pairs count series positions amounts) (draft_fits d) (told-fits d) (fits_told d)
