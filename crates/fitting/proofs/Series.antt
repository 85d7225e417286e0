-- A series of a draft is told fit where it is lent and judged fit. Assumes nothing.
use Prim.Native.Nat.{ℕ, zero, suc, ◌+◌, ◌*◌, ◌<◌}
use mathlib.Core.Path.{◌≡◌, refl, sym, ap, ◌∙◌}
use mathlib.Core.List.{List}
use mathlib.Core.Bool.{Bool, true, false, cond, ◌&&◌, not, and-false}
use native.Mathlib.Omega.{arith}
use lib.Dec.{eqb, leb, ltb}
use lib.IntN.{pos, nat_abs}
use lib.ListN.{length, drop, get_or}
use borrow.Author.Tests.{ne_eqb, le-leb, le-ltb}
use Rattle.lists.proofs.Cases.{never}
use Rattle.columns.specs.Columns.{series_role, period_role}
use Rattle.guideline.specs.Kinds.{kind_at, within_most, has_enough}
use Rattle.times.specs.Periods.{quarter_hours}
use Rattle.rules.specs.Rules.{position_fits}
use Rattle.series.specs.Row.{field_at}
use Rattle.series.specs.declared.Field.TheVariants.{FirstRow, Count}
use Rattle.views.specs.Layout.{header_pairs, series_pairs, first_pair}
use Rattle.contents.specs.Legal.{Period, quarters_of, in_turn, count_fits}
use Rattle.drafts.specs.Draft.{Draft, role_row, pair_for, pair_fits}
use Rattle.drafts.specs.Judged.{singles_fit, originals_said, positions_in, all_written, amounts_fit, series_fits, every_series}
use Rattle.drafts.specs.Fit.{rows_fit}
use Rattle.fitting.specs.Told.{singles_told, originals_told, amount_told, row_told, rows_told, count_told, rows_lent, five_or_none, series_told, used_before, every_told}
use Rattle.fitting.proofs.Singles.{through_fit, through-told, through-once, through-period, pairs_before, originals-told}
use Rattle.fitting.proofs.Laid.{Laid}
use Rattle.fitting.proofs.Apart.{fresh_from}

-- ---- the rows of a series

-- a Pos that comes after the last one is not 0
some-position : (kind quarters last q : ℕ) → position_fits kind quarters last q ≡ true → leb 1 q ≡ true
unfolding position_fits
some-position kind quarters last (suc q) e = le-leb 1 (suc q) (omega arith)
some-position kind quarters last zero e = by (ltb quarters 0) (kind_at kind).counted (eqb last 0) refl refl refl
  where
    by : (a b c : Bool) → ltb quarters 0 ≡ a → (kind_at kind).counted ≡ b → eqb last 0 ≡ c → leb 1 0 ≡ true
    by true b c x y z = never (rw x at e)
    by false true c x y z = never (rw (x, y, ne_eqb 0 (last + 1) (λ n. omega (arith, n))) at e)
    by false false true x y z = never (rw (x, y, z) at e)
    by false false false x y z = never (rw (x, y, z, le-ltb last 0 (omega arith)) at e)

-- of one row: whether it is at least 1, at most 99999, comes after the last one, and has an amount that can be written; and of those after it
row-order : (one few turn small ones turns smalls : Bool) → (turn ≡ true → one ≡ true)
    → (cond few (cond turn small false) false && (ones && turns && smalls)) ≡ ((cond one few false && ones) && (turn && turns) && (small && smalls))
row-order true true true true ones turns smalls g = refl
row-order true true true false ones turns smalls g = sym (and-false (ones && turns))
row-order true false true small ones turns smalls g = refl
row-order false few true small ones turns smalls g = never (g refl)
row-order one true false small ones turns smalls g = sym (ap (λ (z : Bool). z && (small && smalls)) (and-false (cond one true false && ones)))
row-order one false false small ones turns smalls g = sym (ap (λ (z : Bool). z && (small && smalls)) (and-false (cond one false false && ones)))

rows-told : (d : Draft) (kind quarters last j n : ℕ)
    → rows_told kind quarters d.positions d.amounts last j n ≡ (all_written (positions_in d j n) && in_turn kind quarters last (positions_in d j n) && amounts_fit d j n)
unfolding rows_told row_told amount_told all_written positions_in in_turn amounts_fit
rows-told d kind quarters last j zero = refl
rows-told d kind quarters last j (suc n) =
    let q = get_or d.positions j 0 in
    let a = get_or d.amounts j (pos 0) in
    ap (λ (z : Bool). cond (leb q 99999) (cond (position_fits kind quarters last q) (ltb (nat_abs a) 1000000000000000) false) false && z) (rows-told d kind quarters q (suc j) n)
    ∙ row-order (leb 1 q) (leb q 99999) (position_fits kind quarters last q) (ltb (nat_abs a) 1000000000000000) (all_written (positions_in d (suc j) n)) (in_turn kind quarters q (positions_in d (suc j) n))
    (amounts_fit d (suc j) n) (some-position kind quarters last q)

-- ---- how many there are

count-order : (e w f : Bool) → cond e (cond w f false) false ≡ (e && w && f && true)
count-order true true true = refl
count-order true true false = refl
count-order true false f = refl
count-order false w f = refl

count-told : (kind quarters n : ℕ) → count_told kind quarters n ≡ (count_fits kind quarters n && leb 1 n)
unfolding count_told count_fits
count-told kind quarters zero = sym (and-false (has_enough kind 0 && within_most kind 0 && cond (kind_at kind).full (eqb 0 quarters) true))
count-told kind quarters (suc n) =
    rw (ne_eqb (suc n) 0 (λ z. omega (arith, z)), le-leb 1 (suc n) (omega arith))
    (count-order (has_enough kind (suc n)) (within_most kind (suc n)) (cond (kind_at kind).full (eqb (suc n) quarters) true))

-- ---- a series

-- where the values before the Period fit, the Originals are counted alike
originals-order : (s t o u z : Bool) → (s ≡ true → o ≡ u) → cond (s && t) (cond o z false) false ≡ cond (s && t) (cond u z false) false
originals-order true true o u z g = ap (λ (x : Bool). cond x z false) (g refl)
originals-order true false o u z g = refl
originals-order false t o u z g = refl

series-order : (r q c l s t o w i a : Bool)
    → cond (cond r q false) (cond (c && l) (cond (s && t) (cond o (w && i && a) false) false) false) false ≡ (r && q && (s && t && o && c && l && w && i && a))
series-order false q c l s t o w i a = refl
series-order true false c l s t o w i a = refl
series-order true true true true true true true w i a = refl
series-order true true true true true true false w i a = refl
series-order true true true true true false o w i a = refl
series-order true true true true false t o w i a = refl
series-order true true true false true true true w i a = refl
series-order true true true false true true false w i a = refl
series-order true true true false true false o w i a = refl
series-order true true true false false t o w i a = refl
series-order true true false l true true true w i a = refl
series-order true true false l true true false w i a = refl
series-order true true false l true false o w i a = refl
series-order true true false l false t o w i a = refl

module _ (d : Draft) (p : Period) (rows : List ℕ) (laid : Laid rows) where
  -- the values of series i, whose pairs are all fit
  values-told : (i : ℕ) → ((j : ℕ) → j < header_pairs + series_pairs + series_pairs * i → pair_fits d j ≡ true)
      → singles_told d.kind p.start p.end d.text d.pairs (header_pairs + series_pairs * i) (drop (suc (role_row series_role rows)) rows)
      ≡ (singles_fit d p (pair_for rows (suc (role_row series_role rows)) i) (drop (suc (role_row series_role rows)) rows)
      && singles_fit d p (pair_for rows (suc (role_row period_role rows)) i) (drop (suc (role_row period_role rows)) rows))
  unfolding pair_for
  values-told i fits =
      let s = suc (role_row series_role rows) in
      let q = suc (role_row period_role rows) in
      let ws = drop s rows in
      let k = header_pairs + series_pairs * i in
      let here : first_pair rows s + series_pairs * i ≡ k = ap (λ (x : ℕ). x + series_pairs * i) laid.series-first in
      let inner : k + pairs_before ws ≡ first_pair rows q + series_pairs * i = let e = laid.behind-first in omega (arith, e) in
      through-told d p (header_pairs + series_pairs) (series_pairs * i) fits ws header_pairs laid.series
      ∙ through-period d p ws k laid.period
      ∙ ap (λ (x : List ℕ). singles_fit d p k ws && through_fit d p (k + pairs_before ws) x) laid.behind
      ∙ ap (λ (x : ℕ). singles_fit d p k ws && through_fit d p x (drop q rows)) inner
      ∙ ap (λ (x : Bool). singles_fit d p k ws && x) (through-once d p (drop q rows) (first_pair rows q + series_pairs * i) laid.behind-ends)
      ∙ ap (λ (x : ℕ). singles_fit d p x ws && singles_fit d p (first_pair rows q + series_pairs * i) (drop q rows)) (sym here)

  abbrev lent_all : ℕ → ℕ → Bool
  lent_all first count = leb (first + count) (length d.positions) && leb (first + count) (length d.amounts)

  series-told : (i : ℕ) → ((j : ℕ) → j < header_pairs + series_pairs + series_pairs * i → pair_fits d j ≡ true)
      → series_told d.kind p.start p.end d.text d.pairs rows (suc (role_row series_role rows)) (header_pairs + series_pairs * i) (field_at d.series i FirstRow) (field_at d.series i Count)
      d.positions d.amounts
      ≡ (lent_all (field_at d.series i FirstRow) (field_at d.series i Count) && series_fits d rows p i)
  unfolding series_told series_fits rows_lent five_or_none quarters_of pair_for
  series-told i fits =
      let s = suc (role_row series_role rows) in
      let q = suc (role_row period_role rows) in
      let first = field_at d.series i FirstRow in
      let count = field_at d.series i Count in
      let k = header_pairs + series_pairs * i in
      let n = quarter_hours p.start p.end in
      let r1 = leb (first + count) (length d.positions) in
      let r2 = leb (first + count) (length d.amounts) in
      let s1 = singles_fit d p (first_pair rows s + series_pairs * i) (drop s rows) in
      let s2 = singles_fit d p (first_pair rows q + series_pairs * i) (drop q rows) in
      let o1 = originals_told d.pairs k (drop s rows) in
      let o2 = originals_said d (first_pair rows s + series_pairs * i) (drop s rows) in
      let here : first_pair rows s + series_pairs * i ≡ k = ap (λ (x : ℕ). x + series_pairs * i) laid.series-first in
      let originals : s1 ≡ true → o1 ≡ o2 =
      λ e. ap (λ (x : ℕ). originals_told d.pairs x (drop s rows)) (sym here)
      ∙ originals-told d p (header_pairs + series_pairs) (drop s rows) (first_pair rows s + series_pairs * i) header_pairs laid.series e in
      let z = all_written (positions_in d first count) && in_turn d.kind n 0 (positions_in d first count) && amounts_fit d first count in
      rw (count-told d.kind n count, values-told i fits, rows-told d d.kind n 0 first count)
      (ap (λ (x : Bool). cond (cond r1 r2 false) (cond (count_fits d.kind n count && leb 1 count) x false) false)
      (originals-order s1 s2 (cond (eqb o1 0) true (eqb o1 5)) (cond (eqb o2 0) true (eqb o2 5)) z (λ e. ap (λ (x : ℕ). cond (eqb x 0) true (eqb x 5)) (originals e)))
      ∙ series-order r1 r2 (count_fits d.kind n count) (leb 1 count) s1 s2 (cond (eqb o2 0) true (eqb o2 5)) (all_written (positions_in d first count)) (in_turn d.kind n 0 (positions_in d first count))
      (amounts_fit d first count))

  -- ---- the series

  every-order : (r q s u rs ss us : Bool)
      → cond (r && q && s) (cond u false (rs && ss && us)) false ≡ ((r && q && rs) && (s && ss) && (not u && us))
  every-order false q s u rs ss us = refl
  every-order true false s u rs ss us = refl
  every-order true true true false rs ss us = refl
  every-order true true true true rs ss us = sym (and-false (rs && ss))
  every-order true true false u rs ss us = sym (ap (λ (z : Bool). z && (not u && us)) (and-false rs))

  pub every-told : (i n : ℕ) → ((j : ℕ) → j < header_pairs + series_pairs * (i + n) → pair_fits d j ≡ true)
      → every_told d.kind p.start p.end d.text d.pairs rows d.series d.positions d.amounts i n
      ≡ (rows_fit d i n && every_series d rows p i n && fresh_from d.text d.pairs i n)
  unfolding every_told rows_fit every_series fresh_from
  every-told i zero fits = refl
  every-told i (suc n) fits =
      let first = field_at d.series i FirstRow in
      let count = field_at d.series i Count in
      let u = used_before d.text d.pairs i i in
      rw (series-told i (λ j l. fits j (omega (arith, l))), every-told (suc i) n (λ j l. fits j (omega (arith, l))))
      (every-order (leb (first + count) (length d.positions)) (leb (first + count) (length d.amounts)) (series_fits d rows p i) u (rows_fit d (suc i) n) (every_series d rows p (suc i) n)
      (fresh_from d.text d.pairs (suc i) n))
