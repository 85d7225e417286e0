-- The tables that a conforming content fills show it: a row for each series, and a position and an amount for each interval.
-- Assumes nothing.
use Prim.Native.Nat.{ℕ, ◌+◌, ◌≤◌}
use mathlib.Core.Path.{◌≡◌, refl, sym, ap, ◌∙◌}
use mathlib.Core.List.{List, map}
use mathlib.Core.Bool.{true, false}
use native.Mathlib.Omega.{arith}
use lib.Dec.{eqb}
use lib.IntN.{ℤ, pos}
use lib.ListN.{length, get_or, take, length-replicate}
use Rattle.lists.specs.Zeros.{zeros}
use Rattle.columns.specs.Columns.{role_of}
use Rattle.reader.specs.Items.{Placed}
use Rattle.series.specs.Row.{cells_of}
use Rattle.reader.specs.Reading.{blank, tables_after}
use Rattle.trees.specs.Trees.{Trees, none, element, EachConforms, Conforms}
use Rattle.contents.specs.Legal.{has_role, those, in_each, position_of}
use Rattle.contents.specs.Shown.{amount_in, sum, each_series, interval_counts, Shows}
use Rattle.contents.proofs.Lists.{sets-shown, zero-all}
use Rattle.contents.proofs.Laid.{Layout, Valued}
use Rattle.contents.proofs.Elements.{last-in, last-those}
use Rattle.contents.proofs.Shape.{document-shape}
use Rattle.contents.proofs.Walk.{nothing, opened, walked}
use Rattle.contents.proofs.Fill.{said_of, saying, state_of, tables_with, filled, Stands}
use Rattle.contents.proofs.Values.{HasValues}
use Rattle.contents.proofs.Intervals.{Puts, puts}
use Rattle.contents.proofs.Rows.{Filled, filled-as, row_moved, series-kept, series_in, series-filled}

module _ (kind : ℕ) (rows : List ℕ) (p : ℕ) (L : Layout rows p) (W : Valued rows) (doc : List ℕ) (ns np na : ℕ) where
  -- ---- the root

  pub root-role : (role : ℕ) → eqb 1 role ≡ false → eqb (role_of (get_or rows 1 0)) role ≡ false
  root-role role e = rw L.root e

  pub root-those : (role : ℕ) (x : Placed) (inner : Trees Placed) → eqb 1 role ≡ false
      → those (has_role role) rows (saying inner) ≡ those (has_role role) rows (saying (element 1 x inner none))
  unfolding saying
  root-those role x inner e = sym (last-those rows (has_role role) 1 (said_of x) (saying inner) (root-role role e))

  root-in-each : (role : ℕ) (x : Placed) (inner : Trees Placed) → eqb 1 role ≡ false
      → in_each (has_role role) rows (saying inner) ≡ in_each (has_role role) rows (saying (element 1 x inner none))
  unfolding saying
  root-in-each role x inner e = sym (last-in rows (has_role role) 1 (said_of x) (saying inner) (root-role role e))

  pub root-tally : (x : Placed) → ((opened (get_or rows 1 0) (said_of x) nothing).series ≡ 0) × ((opened (get_or rows 1 0) (said_of x) nothing).intervals ≡ 0)
  unfolding nothing
  root-tally x = rw L.root (refl, refl)

  pub root-cells : (x : Placed) → (tables_with kind rows 1 x (opened (get_or rows 1 0) (said_of x) nothing) (blank ns np na)).series ≡ zeros ns
  unfolding tables_after blank
  root-cells x =
      let r = L.root in
      series-kept (role_of (get_or rows 1 0)) (position_of (said_of x)) x.at _ x.rest (state_of kind 1 true (opened (get_or rows 1 0) (said_of x) nothing)) (zeros ns)
      (λ e. omega (arith, e, r)) (λ e. omega (arith, e, r)) (λ e. omega (arith, e, r))

  -- ---- a conforming content

  module _ (kids : Trees Placed) (c : Conforms rows 0 kids) (g : HasValues rows kids) where
    all-puts : Puts nothing (blank ns np na) (walked rows (saying kids) nothing) (filled kind rows kids nothing (blank ns np na))
        (those (has_role 4) rows (saying kids)) (map position_of (those (has_role 9) rows (saying kids))) (map amount_in (those (has_role 10) rows (saying kids)))
    all-puts =
        let s = L.size in
        puts kind rows p L W kids 0 nothing (blank ns np na) (omega (arith, s)) (λ e. omega (arith, e)) c.fits.stand c.each g

    shown-positions : length (those (has_role 4) rows (saying kids)) ≤ np
        → (j : ℕ) → get_or (filled kind rows kids nothing (blank ns np na)).positions j 0 ≡ get_or (map position_of (those (has_role 9) rows (saying kids))) j 0
    unfolding nothing blank
    shown-positions h j =
        let k = all-puts in
        let m = k.positions-many in
        ap (λ (l : List ℕ). get_or l j 0) k.positions ∙ sets-shown 0 np (map position_of (those (has_role 9) rows (saying kids))) (omega (arith, m, h)) j

    shown-amounts : length (those (has_role 4) rows (saying kids)) ≤ na
        → (j : ℕ) → get_or (filled kind rows kids nothing (blank ns np na)).amounts j (pos 0) ≡ get_or (map amount_in (those (has_role 10) rows (saying kids))) j (pos 0)
    unfolding nothing blank
    shown-amounts h j =
        let k = all-puts in
        let m = k.amounts-many in
        ap (λ (l : List ℤ). get_or l j (pos 0)) k.amounts ∙ sets-shown (pos 0) na (map amount_in (those (has_role 10) rows (saying kids))) (omega (arith, m, h)) j

  root-filled : (x : Placed) (inner : Trees Placed) → Conforms rows 0 (element 1 x inner none) → Stands doc (element 1 x inner none)
      → HasValues rows (element 1 x inner none) → cells_of (series_in kind rows p L W doc (element 1 x inner none)) ≤ ns
      → Filled doc rows 0 0 (zeros ns) (filled kind rows (element 1 x inner none) nothing (blank ns np na)).series (length (those (has_role 2) rows (saying (element 1 x inner none))))
      (each_series rows (saying (element 1 x inner none)))
  unfolding EachConforms Stands HasValues filled each_series
  root-filled x inner c d g room =
      let y = opened (get_or rows 1 0) (said_of x) nothing in
      let t = tables_with kind rows 1 x y (blank ns np na) in
      let a = root-tally x in
      let a₀ = a.0 in
      let z = root-cells x in
      let m = ap length (root-those 2 x inner refl) in
      let len : length t.series ≡ ns = ap length z ∙ length-replicate ns 0 in
      filled-as a.0 a.1 z m (root-in-each 2 x inner refl)
      (series-filled kind rows p L W doc inner y t c.each.0.stand c.each.1 d.2 g.1 (omega (arith, m, room, len, a₀))
      (λ j l. ap (λ (k : List ℕ). get_or k j 0) z ∙ zero-all 0 ns j))

  shown-series : (kids : Trees Placed) → Conforms rows 0 kids → Stands doc kids → HasValues rows kids → cells_of (length (those (has_role 2) rows (saying kids))) ≤ ns
      → Filled doc rows 0 0 (zeros ns) (filled kind rows kids nothing (blank ns np na)).series (length (those (has_role 2) rows (saying kids))) (each_series rows (saying kids))
  shown-series kids c d g room =
      let h = document-shape rows p L kids c in
      rw h.is (root-filled h.tag h.inner (rw h.is at c) (rw h.is at d) (rw h.is at g) (rw h.is at room))

  pub shows : (kids : Trees Placed) → Conforms rows 0 kids → Stands doc kids → HasValues rows kids → cells_of (length (those (has_role 2) rows (saying kids))) ≤ ns
      → length (those (has_role 4) rows (saying kids)) ≤ np → length (those (has_role 4) rows (saying kids)) ≤ na
      → Shows doc (filled kind rows kids nothing (blank ns np na)) rows (saying kids)
  shows kids c d g a b e =
      let k = shown-series kids c d g a in
      record {
        series = λ i l.
            let n = sum (take i (interval_counts rows (each_series rows (saying kids)))) in
            row_moved (let z : 0 + i ≡ i = omega arith in z) (let z : 0 + n ≡ n = omega arith in z) (k.shown i l);
        positions = shown-positions kids c g b;
        amounts = shown-amounts kids c g e;
      }
