-- The whole: a walk over a content that conforms passes exactly where the content meets the rules, and what it comes to. Assumes nothing.
use Prim.Native.Nat.{ℕ, ◌+◌, ◌≤◌, ◌<◌}
use mathlib.Core.Path.{◌≡◌, sym, ap, subst, ◌∙◌}
use mathlib.Core.List.{List, [], ◌∷◌, ◌++◌, map, append-nil}
use mathlib.Core.Bool.{false, cond}
use native.Mathlib.Omega.{arith}
use lib.Dec.{eqb}
use lib.ListN.{length, get_or}
use borrow.Author.Tests.{eq-eqb, ne_eqb}
use Rattle.columns.specs.Columns.{form_of, role_of}
use Rattle.states.specs.declared.Room.{Room}
use Rattle.trees.specs.Trees.{Trees, none, element, Conforms}
use Rattle.contents.specs.Said.{TagSaid}
use Rattle.contents.specs.Legal.{has_role, has_form, those, in_each, Period, period_in, period_of, quarters_of, position_of, element_fits, Each, in_turn, SeriesFits, All}
use Rattle.contents.proofs.Tests.{chosen, other}
use Rattle.contents.proofs.Laid.{Layout, series_at}
use Rattle.contents.proofs.Elements.{Within, within_more, beside, none-there, no-role, those-beside, each-beside, each-parts, length-element, within-beside, in-beside, last-those, in-of, last-in, none_in}
use Rattle.contents.proofs.Shape.{SeriesShape, AllSeries, RootShape, DocumentShape, document-shape}
use Rattle.contents.proofs.Walk.{Tally, nothing, opened, walked, Passes}
use Rattle.contents.proofs.Tallies.{unchanged, intervals-walked, series-walked, period-walked}
use Rattle.contents.proofs.Segments.{Holds, Segment}
use Rattle.contents.proofs.Levels.{fits-any, passes-parts, passes-beside, short, Now, now-kept, now-fits, root-segment, SeriesRules, Fresh, series-rules, series-passes}

module _ (kind : ℕ) (room : Room) (rows : List ℕ) (p : ℕ) (L : Layout rows p) (p₀ : Period) where
  -- series side by side
  record SeriesAll (c : Trees TagSaid) (y : Tally) : Type 0 where
    each : Each (element_fits kind p₀) rows c
    all : All (SeriesFits kind (quarters_of p₀) rows) (in_each (has_role 2) rows c)
    series : y.series + length (those (has_role 2) rows c) ≤ room.series
    fit : y.intervals + length (those (has_role 4) rows c) ≤ room.intervals

  -- what stands in a series has rows after its own
  in-series : (c : Trees TagSaid) → SeriesShape rows p L c → Within (λ q. (series_at L < q) × (q < length rows)) c
  unfolding Within
  in-series c sh =
      let s = L.size in
      let w = L.wide in
      subst (Within (λ q. (series_at L < q) × (q < length rows))) (sym sh.is)
      (within-beside (λ q. (series_at L < q) × (q < length rows)) sh.head (element p sh.tag sh.inner none)
      (within_more (λ q r. (r.0, short kind room rows p L p₀ q r.1)) sh.head sh.heads)
      ((omega (arith, w), omega (arith, s)), within_more (λ q r. (omega (arith, r.0, w), r.1)) sh.inner sh.deep, tt))

  -- one series, at row q, which is that of a series
  module _ (q : ℕ) (s : TagSaid) (inner after : Trees TagSaid) (e : q ≡ series_at L) (sh : SeriesShape rows p L inner) (y : Tally) (i : Now kind room rows p L p₀ y)
      (fit : y.intervals ≤ room.intervals) where
    abbrev w : ℕ
    w = get_or rows q 0

    abbrev y₁ : Tally
    y₁ = opened w s y

    abbrev y₂ : Tally
    y₂ = walked rows inner y₁

    is-series : role_of w ≡ 2
    is-series = ap (λ (j : ℕ). role_of (get_or rows j 0)) e ∙ L.series

    inside : q < length rows
    inside = let z = L.size in let v = L.wide in omega (arith, e, z, v)

    same-intervals : y₁.intervals ≡ y.intervals
    same-intervals = other _ y.intervals (ne_eqb (role_of w) 4 (λ r. let z = is-series in omega (arith, r, z)))

    one-series : y₁.series ≡ y.series + 1
    one-series = chosen _ y.series (eq-eqb (role_of w) 2 is-series)

    fresh : Fresh kind room rows p L p₀ y₁
    fresh =
        let a = same-intervals in
        record {
          now = now-kept kind room rows p L p₀ q s y inside (λ z. omega (arith, z, e)) i;
          fit = omega (arith, a, fit);
          first = chosen y.intervals y.first (eq-eqb (role_of w) 2 is-series) ∙ sym a;
          originals = chosen 0 _ (eq-eqb (role_of w) 2 is-series);
        }

    no-series-in : those (has_role 2) rows inner ≡ []
    no-series-in = no-role rows 2 inner (within_more (λ q r z. let u = L.only-series q r.1 z in omega (arith, u, r.0)) inner (in-series inner sh))

    none_each : in_each (has_role 2) rows inner ≡ []
    none_each =
        none_in rows (has_role 2) inner
        (within_more (λ q r. ne_eqb (role_of (get_or rows q 0)) 2 (λ z. let u = L.only-series q r.1 z in omega (arith, u, r.0))) inner (in-series inner sh))

    -- what stands in the series, and then what stands in those after it
    each-is : in_each (has_role 2) rows (element q s inner after) ≡ inner ∷ in_each (has_role 2) rows after
    each-is = in-of rows (has_role 2) q s inner after (eq-eqb (role_of w) 2 is-series) none_each

    later-now : Now kind room rows p L p₀ y₂
    later-now =
        unchanged rows (λ z. z.period) (λ q. (series_at L < q) × (q < length rows))
        (λ q s z r. other _ z.period (ne_eqb (form_of (get_or rows q 0)) 6 (λ e. let u = L.covered-form q r.1 e in omega (arith, u, r.0))))
        inner (in-series inner sh) y₁
        ∙ fresh.now

    later-intervals : y₂.intervals ≡ y.intervals + length (those (has_role 4) rows inner)
    later-intervals = let a = intervals-walked rows inner y₁ in let b = same-intervals in omega (arith, a, b)

    later-series : y₂.series ≡ y.series + 1
    later-series =
        let a = series-walked rows inner y₁ in
        let b = one-series in
        let z : length (those (has_role 2) rows inner) ≡ 0 = ap length no-series-in in
        omega (arith, a, b, z)

    how-many : length (those (has_role 2) rows (element q s inner after)) ≡ 1 + length (those (has_role 2) rows after)
    how-many =
        let l = length-element rows 2 q s inner after in
        let u : ◌≡◌ {A = ℕ} (cond (eqb (role_of w) 2) 1 0) 1 = chosen 1 0 (eq-eqb (role_of w) 2 is-series) in
        let z : length (those (has_role 2) rows inner) ≡ 0 = ap length no-series-in in
        omega (arith, l, u, z)

    how-many-intervals : length (those (has_role 4) rows (element q s inner after)) ≡ length (those (has_role 4) rows inner) + length (those (has_role 4) rows after)
    how-many-intervals =
        let l = length-element rows 4 q s inner after in
        let u : ◌≡◌ {A = ℕ} (cond (eqb (role_of w) 4) 1 0) 0 = other 1 0 (ne_eqb (role_of w) 4 (λ r. let z = is-series in omega (arith, r, z))) in
        omega (arith, l, u)

  all-rules : (c : Trees TagSaid) → AllSeries rows p L c → (y : Tally) → Now kind room rows p L p₀ y → y.intervals ≤ room.intervals → y.series ≤ room.series
      → Passes kind room rows c y → SeriesAll c y
  unfolding AllSeries Passes Each those in_each All
  all-rules none a y i f g t = record { each = tt; all = tt; series = omega (arith, g); fit = omega (arith, f) }
  all-rules (element q s inner after) a y i f g t =
      let r = series-rules kind room rows p L p₀ inner a.1 (y₁ q s inner after a.0 a.1 y i f) (fresh q s inner after a.0 a.1 y i f) t.1 in
      let b = same-intervals q s inner after a.0 a.1 y i f in
      let c = later-intervals q s inner after a.0 a.1 y i f in
      let d = later-series q s inner after a.0 a.1 y i f in
      let n = how-many q s inner after a.0 a.1 y i f in
      let m = how-many-intervals q s inner after a.0 a.1 y i f in
      let l = t.0.series (is-series q s inner after a.0 a.1 y i f) in
      let z = r.fit in
      let more = all-rules after a.2 (y₂ q s inner after a.0 a.1 y i f) (later-now q s inner after a.0 a.1 y i f) (omega (arith, z, b, c)) (omega (arith, d, l)) t.3 in
      let x = more.series in
      let v = more.fit in
      record {
        each = (sym (now-fits kind room rows p L p₀ q s y i) ∙ t.0.fits, r.each, more.each);
        all = subst (All (SeriesFits kind (quarters_of p₀) rows)) (sym (each-is q s inner after a.0 a.1 y i f)) (r.fits, more.all);
        series = omega (arith, n, d, x);
        fit = omega (arith, m, c, v);
      }

  all-passes : (c : Trees TagSaid) → AllSeries rows p L c → (y : Tally) → Now kind room rows p L p₀ y → y.intervals ≤ room.intervals → y.series ≤ room.series
      → SeriesAll c y → Passes kind room rows c y
  unfolding AllSeries Passes Each those in_each All
  all-passes none a y i f g r = tt
  all-passes (element q s inner after) a y i f g r =
      let b = same-intervals q s inner after a.0 a.1 y i f in
      let c = later-intervals q s inner after a.0 a.1 y i f in
      let d = later-series q s inner after a.0 a.1 y i f in
      let n = how-many q s inner after a.0 a.1 y i f in
      let m = how-many-intervals q s inner after a.0 a.1 y i f in
      let role = is-series q s inner after a.0 a.1 y i f in
      let parts = subst (All (SeriesFits kind (quarters_of p₀) rows)) (each-is q s inner after a.0 a.1 y i f) r.all in
      let x = r.series in
      let v = r.fit in
      let own : SeriesRules kind room rows p L p₀ inner (y₁ q s inner after a.0 a.1 y i f) =
      record { each = r.each.1; fits = parts.0; fit = omega (arith, m, b, v) } in
      let more : SeriesAll after (y₂ q s inner after a.0 a.1 y i f) =
      record { each = r.each.2; all = parts.1; series = omega (arith, n, d, x); fit = omega (arith, m, c, v) } in
      let inside = inside q s inner after a.0 a.1 y i f in
      let wide = L.wide in (
        record {
          fits = now-fits kind room rows p L p₀ q s y i ∙ r.each.0;
          turn = λ z. let u = L.only-pos-form q inside z in let k = a.0 in absurd (omega (arith, u, k, wide));
          series = λ _. omega (arith, n, x);
          another = λ z. absurd (omega (arith, z, role));
          originals = λ z. absurd (omega (arith, z, role));
        },
        series-passes kind room rows p L p₀ inner a.1 (y₁ q s inner after a.0 a.1 y i f) (fresh q s inner after a.0 a.1 y i f) own,
        (λ z. absurd (omega (arith, z, role))),
        all-passes after a.2 (y₂ q s inner after a.0 a.1 y i f) (later-now q s inner after a.0 a.1 y i f) (omega (arith, m, c, v)) (omega (arith, n, d, x)) more,
      )

  in_all : (c : Trees TagSaid) → AllSeries rows p L c → Within (λ q. (1 + L.heads < q) × (q < length rows)) c
  unfolding AllSeries Within
  in_all none a = tt
  in_all (element q s inner after) a =
      let z = L.size in
      let v = L.wide in
      let e = a.0 in (
        (omega (arith, e), omega (arith, e, z, v)),
        within_more (λ q r. (omega (arith, r.0), r.1)) inner (in-series inner a.1),
        in_all after a.2,
      )

-- the rules that are told by a walk: all but the order of elements and the identifications; and the tables have room
pub record Rules (kind : ℕ) (room : Room) (rows : List ℕ) (c : Trees TagSaid) : Type 0 where
  pub elements : Each (element_fits kind (period_of rows c)) rows c
  pub series : All (SeriesFits kind (quarters_of (period_of rows c)) rows) (in_each (has_role 2) rows c)
  pub series-room : length (those (has_role 2) rows c) ≤ room.series
  pub intervals-room : length (those (has_role 4) rows c) ≤ room.intervals

module _ (kind : ℕ) (room : Room) (rows : List ℕ) (p : ℕ) (L : Layout rows p) (tag : TagSaid) (inner : Trees TagSaid) (sh : RootShape rows p L inner) where
  abbrev head : Trees TagSaid
  head = sh.head

  abbrev tail : Trees TagSaid
  tail = sh.tail

  abbrev whole : Trees TagSaid
  whole = element 1 tag (beside head tail) none

  abbrev p₀ : Period
  p₀ = period_of rows whole

  abbrev yr : Tally
  yr = opened (get_or rows 1 0) tag nothing

  abbrev yh : Tally
  yh = walked rows head yr

  in_table : 1 < length rows
  in_table = let z = L.size in omega (arith, z)

  root-not : (n : ℕ) → (1 ≡ n → ⊥) → eqb (role_of (get_or rows 1 0)) n ≡ false
  root-not n g = ne_eqb (role_of (get_or rows 1 0)) n (λ e. g (sym L.root ∙ e))

  not_covered : eqb (form_of (get_or rows 1 0)) 6 ≡ false
  not_covered = ne_eqb (form_of (get_or rows 1 0)) 6 (λ e. let z = L.covered-form 1 in_table e in omega (arith, z))

  root-period : yr.period ≡ record { start = 0; end = 0 }
  unfolding nothing
  root-period = other _ nothing.period not_covered

  -- TimePeriodCovered is among the values before the first series
  head-now : yh.period ≡ p₀
  unfolding period_of
  head-now =
      period-walked rows head yr
      ∙ ap (λ r. period_in r (those (has_form 6) rows head)) root-period
      ∙ ap (period_in (record { start = 0; end = 0 })) (sym found)
    where
      none-later : those (has_form 6) rows tail ≡ []
      none-later =
          none-there rows (has_form 6) tail
          (within_more (λ q r. ne_eqb (form_of (get_or rows q 0)) 6 (λ e. let u = L.covered-form q r.1 e in omega (arith, u, r.0))) tail
          (in_all kind room rows p L (record { start = 0; end = 0 }) tail sh.all))

      found : those (has_form 6) rows whole ≡ those (has_form 6) rows head
      found =
          last-those rows (has_form 6) 1 tag (beside head tail) not_covered
          ∙ those-beside rows (has_form 6) head tail
          ∙ ap (λ l. those (has_form 6) rows head ++ l) none-later
          ∙ append-nil (those (has_form 6) rows head)

  head-role : (n : ℕ) → ((q : ℕ) → q < length rows → role_of (get_or rows q 0) ≡ n → series_at L ≤ q) → Within (λ q. role_of (get_or rows q 0) ≡ n → ⊥) head
  head-role n g =
      let w = L.wide in
      within_more
      (λ q r e. let z = g q (short kind room rows p L p₀ q (omega (arith, r.1, w))) e in omega (arith, z, r.1))
      head sh.heads

  no-series : Within (λ q. role_of (get_or rows q 0) ≡ 2 → ⊥) head
  no-series = head-role 2 (λ q l e. let z = L.only-series q l e in omega (arith, z))

  no-intervals : Within (λ q. role_of (get_or rows q 0) ≡ 4 → ⊥) head
  no-intervals = head-role 4 (λ q l e. let z = L.only-interval q l e in let w = L.wide in omega (arith, z, w))

  no-positions : Within (λ q. role_of (get_or rows q 0) ≡ 9 → ⊥) head
  no-positions = head-role 9 (λ q l e. let z = L.only-pos q l e in let w = L.wide in omega (arith, z, w))

  -- series and Intervals stand after those values
  later : (n : ℕ) → (1 ≡ n → ⊥) → Within (λ q. role_of (get_or rows q 0) ≡ n → ⊥) head → those (has_role n) rows whole ≡ those (has_role n) rows tail
  later n g h =
      last-those rows (has_role n) 1 tag (beside head tail) (root-not n g)
      ∙ those-beside rows (has_role n) head tail
      ∙ ap (λ l. l ++ those (has_role n) rows tail) (no-role rows n head h)

  each-later : in_each (has_role 2) rows whole ≡ in_each (has_role 2) rows tail
  each-later =
      last-in rows (has_role 2) 1 tag (beside head tail) (root-not 2 (λ e. omega (arith, e)))
      ∙ in-beside rows (has_role 2) head tail
      ∙ ap (λ l. l ++ in_each (has_role 2) rows tail)
      (none_in rows (has_role 2) head (within_more (λ q f. ne_eqb (role_of (get_or rows q 0)) 2 f) head no-series))

  root-intervals : yr.intervals ≡ 0
  unfolding nothing
  root-intervals = other _ 0 (root-not 4 (λ e. omega (arith, e)))

  root-series : yr.series ≡ 0
  unfolding nothing
  root-series = other _ 0 (root-not 2 (λ e. omega (arith, e)))

  root-first : yr.first ≡ 0
  unfolding nothing
  root-first = other 0 0 (root-not 2 (λ e. omega (arith, e)))

  head-intervals : yh.intervals ≡ 0
  head-intervals =
      let a = intervals-walked rows head yr in
      let b = root-intervals in
      let z : length (those (has_role 4) rows head) ≡ 0 = ap length (no-role rows 4 head no-intervals) in
      omega (arith, a, b, z)

  head-series : yh.series ≡ 0
  head-series =
      let a = series-walked rows head yr in
      let b = root-series in
      let z : length (those (has_role 2) rows head) ≡ 0 = ap length (no-role rows 2 head no-series) in
      omega (arith, a, b, z)

  holds : Holds kind room yr
  holds =
      let a = root-intervals in
      let b = root-first in
      record { begins = omega (arith, a, b); fit = omega (arith, a); few = λ k. omega (arith, a, b) }

  time-free : (form_of (get_or rows 1 0) ≡ 7 → ⊥)
  time-free e = let z = L.time-form 1 in_table e in omega (arith, z)

  passes-whole : Passes kind room rows whole nothing → Rules kind room rows whole
  unfolding Passes Each
  passes-whole t =
      let u = passes-parts kind room rows head tail yr t.1 in
      let g = (root-segment kind room rows p L p₀ head sh.heads yr holds).0 u.0 in
      let i = head-intervals in
      let n = head-series in
      let a = all-rules kind room rows p L p₀ tail sh.all yh head-now (omega (arith, i)) (omega (arith, n)) u.1 in
      let x = a.series in
      let v = a.fit in
      let l : length (those (has_role 2) rows whole) ≡ length (those (has_role 2) rows tail) = ap length (later 2 (λ e. omega (arith, e)) no-series) in
      let m : length (those (has_role 4) rows whole) ≡ length (those (has_role 4) rows tail) = ap length (later 4 (λ e. omega (arith, e)) no-intervals) in
      record {
        elements = (
          fits-any kind p₀ nothing.period (get_or rows 1 0) tag time-free ∙ t.0.fits,
          each-beside rows (element_fits kind p₀) head tail g.each a.each,
          tt,
        );
        series = subst (All (SeriesFits kind (quarters_of p₀) rows)) (sym each-later) a.all;
        series-room = omega (arith, l, x, n);
        intervals-room = omega (arith, m, v, i);
      }

  rules-whole : Rules kind room rows whole → Passes kind room rows whole nothing
  unfolding Passes Each in_turn
  rules-whole r =
      let e = r.elements in
      let b = each-parts rows (element_fits kind p₀) head tail e.1 in
      let i = head-intervals in
      let n = head-series in
      let x = r.series-room in
      let v = r.intervals-room in
      let l : length (those (has_role 2) rows whole) ≡ length (those (has_role 2) rows tail) = ap length (later 2 (λ e. omega (arith, e)) no-series) in
      let m : length (those (has_role 4) rows whole) ≡ length (those (has_role 4) rows tail) = ap length (later 4 (λ e. omega (arith, e)) no-intervals) in
      let z : length (those (has_role 4) rows head) ≡ 0 = ap length (no-role rows 4 head no-intervals) in
      let ri = root-intervals in
      let rf = root-first in
      let root = L.root in
      let g : Segment kind room rows p₀ head yr =
      record {
        each = b.0;
        turns = ap (λ l. in_turn kind (quarters_of p₀) yr.last (map position_of l)) (no-role rows 9 head no-positions);
        few = λ o. omega (arith, ri, rf, z);
        fit = omega (arith, ri, z);
      } in
      let a : SeriesAll kind room rows p L p₀ tail yh =
      record {
        each = b.1;
        all = subst (All (SeriesFits kind (quarters_of p₀) rows)) each-later r.series;
        series = omega (arith, l, x, n);
        fit = omega (arith, m, v, i);
      } in (
        record {
          fits = fits-any kind nothing.period p₀ (get_or rows 1 0) tag time-free ∙ e.0;
          turn = λ o. let u = L.only-pos-form 1 in_table o in absurd (omega (arith, u));
          series = λ o. absurd (omega (arith, o, root));
          another = λ o. absurd (omega (arith, o, root));
          originals = λ o. absurd (omega (arith, o, root));
        },
        passes-beside kind room rows head tail yr ((root-segment kind room rows p L p₀ head sh.heads yr holds).1 g)
            (all-passes kind room rows p L p₀ tail sh.all yh head-now (omega (arith, i)) (omega (arith, n)) a),
        (λ o. absurd (omega (arith, o, root))),
        tt,
      )

module _ (kind : ℕ) (room : Room) (rows : List ℕ) (p : ℕ) (L : Layout rows p) (c : Trees TagSaid) (conforms : Conforms rows 0 c) where
  whole_is : (d : DocumentShape rows p L c) → c ≡ element 1 d.tag (beside d.shape.head d.shape.tail) none
  whole_is d = d.is ∙ ap (λ i. element 1 d.tag i none) d.shape.is

  pub passes-rules : Passes kind room rows c nothing → Rules kind room rows c
  passes-rules t =
      let d = document-shape rows p L c conforms in
      subst (Rules kind room rows) (sym (whole_is d))
      (passes-whole kind room rows p L d.tag d.inner d.shape (subst (λ e. Passes kind room rows e nothing) (whole_is d) t))

  pub rules-passes : Rules kind room rows c → Passes kind room rows c nothing
  rules-passes r =
      let d = document-shape rows p L c conforms in
      subst (λ e. Passes kind room rows e nothing) (sym (whole_is d))
      (rules-whole kind room rows p L d.tag d.inner d.shape (subst (Rules kind room rows) (whole_is d) r))
