-- A walk over a content that conforms passes exactly where the content meets the rules of its elements and of its series, and the tables have room.
-- Assumes nothing.
use Prim.Native.Nat.{ℕ, ◌+◌, ◌-◌, ◌≤◌, ◌<◌}
use mathlib.Core.Path.{◌≡◌, refl, sym, ap, subst, ◌∙◌}
use mathlib.Core.List.{List, [], ◌++◌, map, append-nil}
use mathlib.Core.Logic.{◌⊎◌, inl, inr, ⊎_elim, ◌↔◌}
use mathlib.Core.Bool.{Bool, true, false, cond, ◌&&◌}
use native.Mathlib.Omega.{arith}
use lib.Dec.{eqb}
use lib.ListN.{length, get_or}
use borrow.Author.Tests.{eq-eqb, ne_eqb}
use Rattle.lists.proofs.Cases.{eqb-cases, never}
use Rattle.rules.specs.Rules.{judge}
use Rattle.rules.specs.declared.Held.{Held}
use Rattle.columns.specs.Columns.{form_of, role_of}
use Rattle.guideline.specs.Kinds.{kind_at, within_most, has_enough}
use Rattle.states.specs.Moves.{count_refusal}
use Rattle.states.specs.declared.Room.{Room}
use Rattle.trees.specs.Trees.{Trees, none, element}
use Rattle.trees.proofs.Made.{both}
use Rattle.contents.specs.Said.{TagSaid}
use Rattle.contents.specs.Legal.{has_role, those, Period, quarters_of, position_of, value_fits, element_fits, Each, in_turn, count_fits, SeriesFits}
use Rattle.contents.proofs.Tests.{chosen, other, parts-and}
use Rattle.contents.proofs.Laid.{Layout, series_at}
use Rattle.contents.proofs.Elements.{Within, within_more, beside, no-role, those-beside, each-beside, each-parts, last-those}
use Rattle.contents.proofs.Shape.{SeriesShape}
use Rattle.contents.proofs.Walk.{Tally, opened, walked, quarters_in, Passes}
use Rattle.contents.proofs.Tallies.{unchanged, intervals-walked, originals-walked, first-walked}
use Rattle.contents.proofs.Segments.{Few, within-few, few-within, Holds, Plain, Segment, passes-segment}

-- ---- the rule of one element, and the period

judge-any : (form : ℕ) (h g : Held) (cs : List ℕ) → (form ≡ 7 → ⊥) → (form ≡ 9 → ⊥) → h.kind ≡ g.kind → judge form h cs ≡ judge form g cs
unfolding judge
judge-any form h g cs a b k = rw (ne_eqb form 7 a, ne_eqb form 9 b, k) refl

-- but for TimeInterval it does not matter
pub fits-any : (kind : ℕ) (p r : Period) (w : ℕ) (s : TagSaid) → (form_of w ≡ 7 → ⊥) → element_fits kind p w s ≡ element_fits kind r w s
unfolding element_fits value_fits
fits-any kind p r w s a =
    ⊎_elim
    (λ (y : (form_of w ≡ 9) × (eqb (form_of w) 9 ≡ true)). rw y.1 refl)
    (λ (y : (form_of w ≡ 9 → ⊥) × (eqb (form_of w) 9 ≡ false)).
    rw (judge-any (form_of w)
    (record { kind = kind; from = p.start; to = p.end; quarters = quarters_of p; last = 0 })
    (record { kind = kind; from = r.start; to = r.end; quarters = quarters_of r; last = 0 })
    _ a y.0 refl) refl)
    (eqb-cases (form_of w) 9)

-- ---- elements side by side

module _ (kind : ℕ) (room : Room) (rows : List ℕ) where
  pub passes-parts : (c d : Trees TagSaid) (y : Tally) → Passes kind room rows (beside c d) y → Passes kind room rows c y × Passes kind room rows d (walked rows c y)
  unfolding Passes beside walked
  passes-parts none d y t = (tt, t)
  passes-parts (element q s inner after) d y t =
      let h = passes-parts after d (walked rows inner (opened (get_or rows q 0) s y)) t.3 in
      ((t.0, t.1, t.2, h.0), h.1)

  pub passes-beside : (c d : Trees TagSaid) (y : Tally) → Passes kind room rows c y → Passes kind room rows d (walked rows c y) → Passes kind room rows (beside c d) y
  unfolding Passes beside walked
  passes-beside none d y a b = b
  passes-beside (element q s inner after) d y a b =
      (a.0, a.1, a.2, passes-beside after d (walked rows inner (opened (get_or rows q 0) s y)) a.3 b)

-- ---- how many Intervals

counts : (kind n quarters : ℕ) → count_refusal kind quarters n ≡ 0 → Few kind n → count_fits kind quarters n ≡ true
unfolding count_refusal count_fits
counts kind n quarters e f =
    let h = by (has_enough kind n) (kind_at kind).full (eqb n quarters) e in
    parts-and (has_enough kind n && within_most kind n) (cond (kind_at kind).full (eqb n quarters) true)
    (parts-and (has_enough kind n) (within_most kind n) h.0 (few-within kind n f)) h.1
  where
    by : (a f q : Bool) → ◌≡◌ {A = ℕ} (cond a (cond f (cond q 0 8) 0) 3) 0 → (a ≡ true) × (cond f q true ≡ true)
    by true true true e = (refl, refl)
    by true true false e = absurd (omega (arith, e))
    by true false q e = (refl, refl)
    by false f q e = absurd (omega (arith, e))

counted_back : (kind n quarters : ℕ) → count_fits kind quarters n ≡ true → (count_refusal kind quarters n ≡ 0) × Few kind n
unfolding count_refusal count_fits
counted_back kind n quarters e =
    let t = both (has_enough kind n && within_most kind n) (cond (kind_at kind).full (eqb n quarters) true) e in
    let u = both (has_enough kind n) (within_most kind n) t.0 in
    (rw u.0 (by (kind_at kind).full (eqb n quarters) t.1), within-few kind n u.1)
  where
    by : (f q : Bool) → cond f q true ≡ true → ◌≡◌ {A = ℕ} (cond f (cond q 0 8) 0) 0
    by true true e = refl
    by true false e = never e
    by false q e = refl

module _ (kind : ℕ) (room : Room) (rows : List ℕ) (p : ℕ) (L : Layout rows p) (p₀ : Period) where
  abbrev quarters : ℕ
  quarters = quarters_of p₀

  pub short : (q : ℕ) → q < p → q < length rows
  short q l = let s = L.size in omega (arith, s, l)

  -- ---- what is known of the rows at each place

  head_plain : (q : ℕ) → (q ≡ series_at L → ⊥) → q < p → Plain rows q
  head_plain q f l =
      record {
        not-series = λ e. f (L.only-series q (short q l) e);
        not-period = λ e. let z = L.only-period q (short q l) e in omega (arith, z, l);
        turn = λ e. let z = L.only-pos-form q (short q l) e in absurd (omega (arith, z, l));
        back = λ e. let z = L.only-pos q (short q l) e in absurd (omega (arith, z, l));
      }

  deep-plain : (q : ℕ) → (p < q) × (q < length rows) → Plain rows q
  deep-plain q l =
      let w = L.wide in
      record {
        not-series = λ e. let z = L.only-series q l.1 e in omega (arith, z, l.0, w);
        not-period = λ e. let z = L.only-period q l.1 e in omega (arith, z, l.0);
        turn = λ e. let z = L.only-pos-form q l.1 e in ap (λ (i : ℕ). role_of (get_or rows i 0)) z ∙ L.pos;
        back = λ e. let z = L.only-pos q l.1 e in ap (λ (i : ℕ). form_of (get_or rows i 0)) z ∙ L.pos-form;
      }

  abbrev pub Now : Tally → Type 0
  Now y = y.period ≡ p₀

  pub now-kept : (q : ℕ) (s : TagSaid) (y : Tally) → q < length rows → (q ≡ 2 + L.covered → ⊥) → Now y → Now (opened (get_or rows q 0) s y)
  now-kept q s y l f i = other _ y.period (ne_eqb (form_of (get_or rows q 0)) 6 (λ e. f (L.covered-form q l e))) ∙ i

  pub now-fits : (q : ℕ) (s : TagSaid) (y : Tally) → Now y → element_fits kind y.period (get_or rows q 0) s ≡ element_fits kind p₀ (get_or rows q 0) s
  now-fits q s y i = ap (λ r. element_fits kind r (get_or rows q 0) s) i

  abbrev InHead : ℕ → Type 0
  InHead q = (series_at L < q) × (q < p)

  abbrev InPeriod : ℕ → Type 0
  InPeriod q = (p < q) × (q < length rows)

  abbrev InRoot : ℕ → Type 0
  InRoot q = (1 < q) × (q < series_at L)

  -- the values of a series
  head-segment : (c : Trees TagSaid) → Within InHead c → (y : Tally) → Now y → Holds kind room y → Passes kind room rows c y ↔ Segment kind room rows p₀ c y
  head-segment =
      passes-segment kind room rows p₀ InHead Now (λ q r. head_plain q (λ e. omega (arith, e, r.0)) r.1)
      (λ q s y r i. now-kept q s y (short q r.1) (λ e. omega (arith, e, r.0)) i)
      (λ q s y r i. now-fits q s y i) (λ q y r i e. i)

  -- what stands in a Period
  deep-segment : (c : Trees TagSaid) → Within InPeriod c → (y : Tally) → Now y → Holds kind room y → Passes kind room rows c y ↔ Segment kind room rows p₀ c y
  deep-segment =
      let w = L.wide in
      passes-segment kind room rows p₀ InPeriod Now deep-plain
      (λ q s y r i. now-kept q s y r.1 (λ e. omega (arith, e, r.0, w)) i)
      (λ q s y r i. now-fits q s y i) (λ q y r i e. i)

  -- the values before the first series, whatever the period will be
  root-plain : (q : ℕ) → InRoot q → Plain rows q
  root-plain q r = let w = L.wide in head_plain q (λ e. omega (arith, e, r.1)) (omega (arith, r.1, w))

  root-any : (q : ℕ) (s : TagSaid) (y : Tally) → InRoot q → Unit {0} → element_fits kind y.period (get_or rows q 0) s ≡ element_fits kind p₀ (get_or rows q 0) s
  root-any q s y r i =
      let w = L.wide in
      fits-any kind y.period p₀ (get_or rows q 0) s
      (λ e. let z = L.time-form q (short q (omega (arith, r.1, w))) e in omega (arith, z, r.1, w))

  root-now : (q : ℕ) (y : Tally) → InRoot q → Unit {0} → form_of (get_or rows q 0) ≡ 9 → y.period ≡ p₀
  root-now q y r i e =
      let w = L.wide in
      let z = L.only-pos-form q (short q (omega (arith, r.1, w))) e in
      absurd (omega (arith, z, r.1, w))

  pub root-segment : (c : Trees TagSaid) → Within InRoot c → (y : Tally) → Holds kind room y → Passes kind room rows c y ↔ Segment kind room rows p₀ c y
  root-segment c h y a = passes-segment kind room rows p₀ InRoot (λ y. Unit {0}) root-plain (λ q s y r i. tt) root-any root-now c h y tt a

  -- ---- a series

  -- what stands in it
  pub record SeriesRules (c : Trees TagSaid) (y : Tally) : Type 0 where
    pub each : Each (element_fits kind p₀) rows c
    pub fits : SeriesFits kind quarters rows c
    pub fit : y.intervals + length (those (has_role 4) rows c) ≤ room.intervals

  -- right after its start tag
  pub record Fresh (y : Tally) : Type 0 where
    pub now : Now y
    pub fit : y.intervals ≤ room.intervals
    pub first : y.first ≡ y.intervals
    pub originals : y.originals ≡ 0

  module _ (c : Trees TagSaid) (sh : SeriesShape rows p L c) (y : Tally) (f : Fresh y) where
    abbrev head : Trees TagSaid
    head = sh.head

    abbrev inner : Trees TagSaid
    inner = sh.inner

    abbrev period : Trees TagSaid
    period = element p sh.tag inner none

    abbrev yh : Tally
    yh = walked rows head y

    abbrev yp : Tally
    yp = opened (get_or rows p 0) sh.tag yh

    inside : p < length rows
    inside = let s = L.size in omega (arith, s)

    head-role : (n : ℕ) → ((q : ℕ) → q < length rows → role_of (get_or rows q 0) ≡ n → (q ≤ series_at L) ⊎ (p ≤ q)) → Within (λ q. role_of (get_or rows q 0) ≡ n → ⊥) head
    head-role n g =
        within_more
        (λ q r e. ⊎_elim (λ (z : q ≤ series_at L). omega (arith, z, r.0)) (λ (z : p ≤ q). omega (arith, z, r.1)) (g q (short q r.1) e))
        head sh.heads

    deep-role : (n : ℕ) → ((q : ℕ) → q < length rows → role_of (get_or rows q 0) ≡ n → q ≤ p) → Within (λ q. role_of (get_or rows q 0) ≡ n → ⊥) inner
    deep-role n g = within_more (λ q r e. let z = g q r.1 e in omega (arith, z, r.0)) inner sh.deep

    period-not : (n : ℕ) → (3 ≡ n → ⊥) → eqb (role_of (get_or rows p 0)) n ≡ false
    period-not n g = ne_eqb (role_of (get_or rows p 0)) n (λ e. g (sym L.period ∙ e))

    -- what the series has of a role: in its values, and in its Period
    parts : (n : ℕ) → (3 ≡ n → ⊥) → those (has_role n) rows (beside head period) ≡ those (has_role n) rows head ++ those (has_role n) rows inner
    parts n g =
        those-beside rows (has_role n) head period
        ∙ ap (λ l. those (has_role n) rows head ++ l) (last-those rows (has_role n) p sh.tag inner (period-not n g))

    -- Intervals and Pos stand in the Period alone
    of-period : (n : ℕ) → (3 ≡ n → ⊥) → ((q : ℕ) → q < length rows → role_of (get_or rows q 0) ≡ n → p ≤ q)
        → those (has_role n) rows (beside head period) ≡ those (has_role n) rows inner
    of-period n g o =
        parts n g ∙ ap (λ l. l ++ those (has_role n) rows inner) (no-role rows n head (head-role n (λ q l e. inr (o q l e))))

    intervals-there : those (has_role 4) rows (beside head period) ≡ those (has_role 4) rows inner
    intervals-there = of-period 4 (λ e. omega (arith, e)) (λ q l e. let z = L.only-interval q l e in omega (arith, z))

    positions-there : those (has_role 9) rows (beside head period) ≡ those (has_role 9) rows inner
    positions-there = of-period 9 (λ e. omega (arith, e)) (λ q l e. let z = L.only-pos q l e in omega (arith, z))

    -- the Originals stand before it
    originals-there : those (has_role 5) rows (beside head period) ≡ those (has_role 5) rows head
    originals-there =
        parts 5 (λ e. omega (arith, e))
        ∙ ap (λ l. those (has_role 5) rows head ++ l)
        (no-role rows 5 inner (deep-role 5 (λ q l e. let z = L.only-originals q l e in omega (arith, z.1))))
        ∙ append-nil (those (has_role 5) rows head)

    head-no-series : Within (λ q. role_of (get_or rows q 0) ≡ 2 → ⊥) head
    head-no-series = head-role 2 (λ q l e. inl (let z = L.only-series q l e in omega (arith, z)))

    deep-no-series : Within (λ q. role_of (get_or rows q 0) ≡ 2 → ⊥) inner
    deep-no-series = deep-role 2 (λ q l e. let z = L.only-series q l e in let w = L.wide in omega (arith, z, w))

    -- the tally along the series
    head-intervals : yh.intervals ≡ y.intervals
    head-intervals =
        let z = no-role rows 4 head (head-role 4 (λ q l e. inr (let z = L.only-interval q l e in omega (arith, z)))) in
        let e : length (those (has_role 4) rows head) ≡ 0 = ap length z in
        let i = intervals-walked rows head y in
        omega (arith, i, e)

    head_first : yh.first ≡ y.first
    head_first = first-walked rows head head-no-series y

    head-originals : yh.originals ≡ length (those (has_role 5) rows head)
    head-originals = let o = originals-walked rows head head-no-series y in let z = f.originals in omega (arith, o, z)

    head-now : Now yh
    head-now =
        unchanged rows (λ z. z.period) InHead
        (λ q s z r. other _ z.period (ne_eqb (form_of (get_or rows q 0)) 6 (λ e. let u = L.covered-form q (short q r.1) e in omega (arith, u, r.0))))
        head sh.heads y
        ∙ f.now

    period-intervals : yp.intervals ≡ y.intervals
    period-intervals = other _ yh.intervals (period-not 4 (λ e. omega (arith, e))) ∙ head-intervals

    period-first : yp.first ≡ y.intervals
    period-first = other _ yh.first (period-not 2 (λ e. omega (arith, e))) ∙ head_first ∙ f.first

    period-last : yp.last ≡ 0
    period-last = chosen 0 _ (eq-eqb (role_of (get_or rows p 0)) 3 L.period)

    period-now : Now yp
    period-now = now-kept p sh.tag yh inside (λ e. let w = L.wide in omega (arith, e, w)) head-now

    holds : Holds kind room y
    holds =
        let e = f.first in
        let i = f.fit in
        record { begins = omega (arith, e); fit = i; few = λ k. omega (arith, e) }

    period-holds : Holds kind room yp
    period-holds =
        let a = period-intervals in
        let b = period-first in
        let i = f.fit in
        record { begins = omega (arith, a, b); fit = omega (arith, a, i); few = λ k. omega (arith, a, b) }

    -- at the end tag of the Period
    count-there : (walked rows inner yp).intervals - (walked rows inner yp).first ≡ length (those (has_role 4) rows inner)
    count-there =
        let i = intervals-walked rows inner yp in
        let g = first-walked rows inner deep-no-series yp in
        let a = period-intervals in
        let b = period-first in
        omega (arith, i, g, a, b)

    deep-now : (walked rows inner yp).period ≡ p₀
    deep-now =
        unchanged rows (λ z. z.period) InPeriod
        (λ q s z r. other _ z.period (ne_eqb (form_of (get_or rows q 0)) 6 (λ e. let u = L.covered-form q r.1 e in let w = L.wide in omega (arith, u, r.0, w))))
        inner sh.deep yp
        ∙ period-now

    quarters-there : quarters_in (walked rows inner yp) ≡ quarters
    unfolding quarters_of
    quarters-there = ap quarters_of deep-now

    series-rules-at : Passes kind room rows (beside head period) y → SeriesRules (beside head period) y
    unfolding Passes Each
    series-rules-at t =
        let u = passes-parts kind room rows head period y t in
        let b = u.1 in
        let g = (head-segment head sh.heads y f.now holds).0 u.0 in
        let d = (deep-segment inner sh.deep yp period-now period-holds).0 b.1 in
        let n : length (those (has_role 4) rows (beside head period)) ≡ length (those (has_role 4) rows inner) = ap length intervals-there in
        let a = period-intervals in
        let c = period-first in
        record {
          each = each-beside rows (element_fits kind p₀) head period g.each (sym (now-fits p sh.tag yh head-now) ∙ b.0.fits, d.each, tt);
          fits =
              record {
                positions =
                    ap (λ l. in_turn kind quarters 0 (map position_of l)) positions-there
                    ∙ ap (λ l. in_turn kind quarters l (map position_of (those (has_role 9) rows inner))) (sym period-last)
                    ∙ d.turns;
                intervals =
                    ap (count_fits kind quarters) n
                    ∙ counts kind (length (those (has_role 4) rows inner)) quarters
                    (ap (λ m. count_refusal kind quarters m) (sym count-there)
                    ∙ ap (λ m. count_refusal kind m ((walked rows inner yp).intervals - (walked rows inner yp).first)) (sym quarters-there)
                    ∙ b.2 L.period)
                    (λ k. let z = d.few k in omega (arith, z, a, c));
                originals =
                    let o : length (those (has_role 5) rows (beside head period)) ≡ yh.originals = ap length originals-there ∙ sym head-originals in
                    ⊎_elim (λ z. inl (o ∙ z)) (λ z. inr (o ∙ z)) (b.0.originals L.period);
              };
          fit = let z = d.fit in omega (arith, z, a, n);
        }

    series-passes-at : SeriesRules (beside head period) y → Passes kind room rows (beside head period) y
    unfolding Passes Each in_turn
    series-passes-at r =
        let e = each-parts rows (element_fits kind p₀) head period r.each in
        let n : length (those (has_role 4) rows (beside head period)) ≡ length (those (has_role 4) rows inner) = ap length intervals-there in
        let a = period-intervals in
        let c = period-first in
        let i = f.fit in
        let m : length (those (has_role 4) rows head) ≡ 0 = let z = intervals-walked rows head y in let u = head-intervals in omega (arith, z, u) in
        let k = counted_back kind (length (those (has_role 4) rows inner)) quarters (ap (count_fits kind quarters) (sym n) ∙ r.fits.intervals) in
        let x = f.first in
        let none-head : those (has_role 9) rows head ≡ [] =
        no-role rows 9 head (head-role 9 (λ q l e. inr (let z = L.only-pos q l e in omega (arith, z)))) in
        let g : Segment kind room rows p₀ head y =
        record {
          each = e.0;
          turns = ap (λ l. in_turn kind quarters y.last (map position_of l)) none-head;
          few = λ o. omega (arith, m, x);
          fit = omega (arith, m, i);
        } in
        let d : Segment kind room rows p₀ inner yp =
        record {
          each = e.1.1;
          turns =
              ap (λ l. in_turn kind quarters l (map position_of (those (has_role 9) rows inner))) period-last
              ∙ ap (λ l. in_turn kind quarters 0 (map position_of l)) (sym positions-there)
              ∙ r.fits.positions;
          few = λ o. let z = k.1 o in omega (arith, z, a, c);
          fit = let z = r.fit in omega (arith, z, a, n);
        } in
        passes-beside kind room rows head period y ((head-segment head sh.heads y f.now holds).1 g) (
          record {
            fits = now-fits p sh.tag yh head-now ∙ e.1.0;
            turn = λ z. let u = L.only-pos-form p inside z in absurd (omega (arith, u));
            series = λ z. let u = L.only-series p inside z in let w = L.wide in absurd (omega (arith, u, w));
            another = λ z. let u = L.only-interval p inside z in absurd (omega (arith, u));
            originals =
                λ _.
                let o : yh.originals ≡ length (those (has_role 5) rows (beside head period)) = head-originals ∙ ap length (sym originals-there) in
                ⊎_elim (λ z. inl (o ∙ z)) (λ z. inr (o ∙ z)) r.fits.originals;
          },
          (deep-segment inner sh.deep yp period-now period-holds).1 d,
          (λ _.
              ap (λ m. count_refusal kind m ((walked rows inner yp).intervals - (walked rows inner yp).first)) quarters-there
              ∙ ap (λ m. count_refusal kind quarters m) count-there
              ∙ k.0),
          tt,
        )

    pub series-rules : Passes kind room rows c y → SeriesRules c y
    series-rules t = subst (λ d. SeriesRules d y) (sym sh.is) (series-rules-at (subst (λ d. Passes kind room rows d y) sh.is t))

    pub series-passes : SeriesRules c y → Passes kind room rows c y
    series-passes r = subst (λ d. Passes kind room rows d y) (sym sh.is) (series-passes-at (subst (λ d. SeriesRules d y) sh.is r))
