-- A draft whose content is legal is judged fit. Assumes nothing.
use Prim.Native.Nat.{ℕ, zero, suc, ◌+◌, ◌≤◌, ◌<◌}
use mathlib.Core.Path.{◌≡◌, refl, sym, ap, ◌∙◌, subst}
use mathlib.Core.List.{List, [], ◌∷◌, ◌++◌, map, append-nil}
use mathlib.Core.Bool.{Bool, true, false, cond, ◌&&◌, not, and-eq-true_iff}
use mathlib.Core.Logic.{◌⊎◌, inl, inr, ⊎_elim}
use native.Mathlib.Omega.{arith}
use lib.Dec.{eqb, leb, ltb}
use lib.ListN.{length, drop, get_or, length-drop, replicate}
use lib.IntN.{ℤ, pos, nat_abs}
use borrow.Author.Tests.{eqb-true, ne_eqb, le-leb, le-ltb, lt-ltb}
use Rattle.lists.proofs.Cases.{bool_cases, eqb-cases, leb-cases, ltb-cases, never}
use Rattle.slices.specs.Same.{same}
use Rattle.characters.specs.Says.{says}
use Rattle.trims.specs.Trim.{dropped}
use Rattle.numbers.specs.Amount.{written_amount, amount_of}
use Rattle.numbers.specs.Number.{number_of}
use Rattle.std.specs.Prelude.{Option, Some, None}
use Rattle.rules.specs.Rules.{position_fits, judge, form_refusal, unless, amount}
use Rattle.elements.specs.Names.{names, number_in, element_no}
use Rattle.columns.specs.Columns.{form_of, scheme_of, role_of, collapsed, series_role, period_role, interval_role, pos_role}
use Rattle.series.specs.Row.{field_at}
use Rattle.series.specs.declared.Field.TheVariants.{FirstRow, Count}
use Rattle.guideline.specs.Kinds.{no_demands, message_alone, kind_one, kind_two, kind_at, within_most, has_enough}
use Rattle.guideline.specs.Rows.{beschaffungsanforderung, kostenblatt, rows_of}
use Rattle.structure.specs.Rows.{name_of, parent_of, required}
use Rattle.states.specs.Attributes.{agree, asks_v, asks_scheme, demands_at, meets, no_others}
use Rattle.wholes.specs.Whole.{whole_text}
use Rattle.amounts.specs.Texts.{amount_text}
use Rattle.amounts.proofs.Promises.{amount-said, position-said}
use Rattle.views.specs.Layout.{values_of}
use Rattle.trees.specs.Trees.{Trees, none, element, rows_taken, Among, Fits, EachConforms}
use Rattle.contents.specs.Said.{TagSaid, given, bytes}
use Rattle.contents.specs.Legal.{Period, sayings, position_by, position_of, dtd_agrees, attributes_agree, scheme_fits, value_fits, element_fits, Each, in_turn, count_fits, quarters_of, has_role, in_each, SeriesFits, All, is_among, Apart, period_of, identifications, Legal}
use Rattle.drafts.specs.Draft.{Draft, single_tag, is_said, number_tag, no_dtd_said, root_tag, singles, intervals_from, role_row, pair_for, singles_in, period_tree, series_from, draft_content}
use Rattle.drafts.specs.Judged.{singles_fit, originals_said, positions_in, all_written, amounts_fit, series_fits, every_series, all_apart, draft_legal}
use Rattle.drafts.proofs.Writing.{row-there}
use Rattle.drafts.proofs.Order.{lead, said_rows, stand_in, singles-taken, Level, Levels, levels, series-taken, intervals-taken, period-taken}
use Rattle.drafts.proofs.Elements.{pos_tag, drawn, Roles, roles, in-series-those, positions-inside, singles-in-each}
use Rattle.drafts.proofs.Numbers.{position-told, small-amount}
use Rattle.drafts.proofs.Legal.{Fit, outside, series-counted, series-originals, inner-series, plain-intervals}

-- ---- single values

both_so : (a b : Bool) → a ≡ true → b ≡ true → (a && b) ≡ true
both_so a b x y = (and-eq-true_iff a b).1 (x, y)

-- all rows in t come at m or after it
abbrev AtLeast : ℕ → List ℕ → Type 0
AtLeast m t = (j : ℕ) → Among j t → m ≤ j

module _ (d : Draft) (rows t : List ℕ) where
  said-least : (ws : List ℕ) (q k : ℕ) → AtLeast (q + lead ws) t → (j : ℕ) → Among j (said_rows d q k ws ++ t) → q ≤ j
  unfolding said_rows Among lead
  said-least [] q k low j h = let z = low j h in omega (arith, z)
  said-least (w ∷ ws) q k low j h =
      by (asks_v w) (is_said (single_tag d w k)) refl refl (λ (l : AtLeast (suc q + lead ws) t) (g : Among j (said_rows d (suc q) (k + values_of w) ws ++ t)). said-least ws (suc q) (k + values_of w) l j g)
    where
      by : (a s : Bool) → asks_v w ≡ a → is_said (single_tag d w k) ≡ s
          → (AtLeast (suc q + lead ws) t → Among j (said_rows d (suc q) (k + values_of w) ws ++ t) → suc q ≤ j) → q ≤ j
      by false s y z ih = let g : Among j t = rw y at h in let l : q + 0 ≤ j = rw y at (low j g) in omega (arith, l)
      by true true y z ih =
          let g : (j ≡ q) ⊎ Among j (said_rows d (suc q) (k + values_of w) ws ++ t) = rw (y, z) at h in
          ⊎_elim (λ e. omega (arith, e)) (λ e. let l = ih (λ i u. let m : q + suc (lead ws) ≤ i = rw y at (low i u) in omega (arith, m)) e in omega (arith, l)) g
      by true false y z ih =
          let g : Among j (said_rows d (suc q) (k + values_of w) ws ++ t) = rw (y, z) at h in
          let l = ih (λ i u. let m : q + suc (lead ws) ≤ i = rw y at (low i u) in omega (arith, m)) g in
          omega (arith, l)

  module _ (p : Period) (behind : Trees TagSaid) where
    -- in a content that fits and conforms, the single values fit
    fit-back : (ws : List ℕ) (q k : ℕ) → ws ≡ drop q rows → Fit d rows p (singles d q k ws behind) → AtLeast (q + lead ws) t
        → ((j : ℕ) → q ≤ j → j < q + lead ws → required (get_or rows j 0) ≡ true → Among j (said_rows d q k ws ++ t))
        → (singles_fit d p k ws ≡ true) × Fit d rows p behind
    unfolding singles singles_fit said_rows Among lead Each
    fit-back [] q k e f low r = (refl, f)
    fit-back (w ∷ ws) q k e f low r =
        by (asks_v w) (is_said (single_tag d w k)) refl refl
        (λ (g : Each (element_fits d.kind p) rows (singles d (suc q) (k + values_of w) ws behind)) (l : AtLeast (suc q + lead ws) t)
        (m : (j : ℕ) → suc q ≤ j → j < suc q + lead ws → required (get_or rows j 0) ≡ true → Among j (said_rows d (suc q) (k + values_of w) ws ++ t)).
        fit-back ws (suc q) (k + values_of w) (row-there rows q w ws e).1 g l m)
      where
        rest : Trees TagSaid
        rest = singles d (suc q) (k + values_of w) ws behind

        lower : asks_v w ≡ true → AtLeast (suc q + lead ws) t
        lower y i u = let m : q + suc (lead ws) ≤ i = rw y at (low i u) in omega (arith, m)

        by : (a s : Bool) → asks_v w ≡ a → is_said (single_tag d w k) ≡ s
            → (Each (element_fits d.kind p) rows rest → AtLeast (suc q + lead ws) t
            → ((j : ℕ) → suc q ≤ j → j < suc q + lead ws → required (get_or rows j 0) ≡ true → Among j (said_rows d (suc q) (k + values_of w) ws ++ t))
            → (singles_fit d p (k + values_of w) ws ≡ true) × Each (element_fits d.kind p) rows behind)
            → (singles_fit d p k (w ∷ ws) ≡ true) × Each (element_fits d.kind p) rows behind
        by false s y z ih = (rw y refl, rw y at f)
        by true true y z ih =
            let g : (element_fits d.kind p (get_or rows q 0) (single_tag d w k) ≡ true) × Unit {0} × Each (element_fits d.kind p) rows rest = rw (y, z) at f in
            let more =
            ih g.2 (lower y)
            (λ j l h c.
            let u : (j ≡ q) ⊎ Among j (said_rows d (suc q) (k + values_of w) ws ++ t) = rw (y, z) at (r j (omega arith) (rw y (omega arith)) c) in
            ⊎_elim (λ n. absurd (omega (arith, n, l))) (λ n. n) u) in
            let own : element_fits d.kind p w (single_tag d w k) ≡ true = ap (λ (x : ℕ). element_fits d.kind p x (single_tag d w k)) (sym (row-there rows q w ws e).0) ∙ g.0 in
            (rw (y, z) (both_so _ _ own more.0), more.1)
        by true false y z ih =
            let g : Each (element_fits d.kind p) rows rest = rw (y, z) at f in
            let there : (j : ℕ) → q ≤ j → j < q + suc (lead ws) → required (get_or rows j 0) ≡ true → Among j (said_rows d (suc q) (k + values_of w) ws ++ t) =
            λ j l h c. rw (y, z) at (r j l (rw y h) c) in
            let more = ih g (lower y) (λ j l h c. there j (omega arith) (omega arith) c) in
            let free : required w ≡ false =
            ⊎_elim
            (λ (c : required w ≡ true).
            let own : required (get_or rows q 0) ≡ true = ap required (row-there rows q w ws e).0 ∙ c in
            let l = said-least ws (suc q) (k + values_of w) (lower y) q (there q (omega arith) (omega arith) own) in
            absurd (omega (arith, l)))
            (λ c. c)
            (bool_cases (required w)) in
            (rw (y, z, free) more.0, more.1)

-- ---- positions

zero-unfit : (kind quarters last : ℕ) → position_fits kind quarters last 0 ≡ true → ⊥
unfolding position_fits
zero-unfit kind quarters last e =
    by (ltb quarters 0) (kind_at kind).counted (eqb last 0) refl refl refl
  where
    by : (a b c : Bool) → ltb quarters 0 ≡ a → (kind_at kind).counted ≡ b → eqb last 0 ≡ c → ⊥
    by true b c x y z = never (rw x at e)
    by false true c x y z = never (rw (x, y, ne_eqb 0 (last + 1) (λ n. omega (arith, n))) at e)
    by false false true x y z = never (rw (x, y, z) at e)
    by false false false x y z = never (rw (x, y, z, le-ltb last 0 (omega arith)) at e)

-- a Pos of a draft is read as it was given, or as 0
position-or-none : (q : ℕ) → (position_of (number_tag (whole_text q)) ≡ 0) ⊎ ((position_of (number_tag (whole_text q)) ≡ q) × (q ≤ 99999))
unfolding position_of position_by number_tag bytes
position-or-none q = by (number_of (whole_text q) 5) refl
  where
    said : number_of (dropped (says (whole_text q))) 5 ≡ number_of (whole_text q) 5
    said = let p = position-said q in rw (p.0, p.1) refl

    by : (x : Option ℕ) → number_of (whole_text q) 5 ≡ x
        → (position_by (number_of (dropped (says (whole_text q))) 5) ≡ 0) ⊎ ((position_by (number_of (dropped (says (whole_text q))) 5) ≡ q) × (q ≤ 99999))
    by None e = inl (rw (said, e) refl)
    by (Some n) e = let t = position-told q n e in inr (rw (said, e) (sym t.0), t.1)

positions-told : (d : Draft) (kind quarters last j n : ℕ) → in_turn kind quarters last (map position_of (drawn d (pos_tag d) j n)) ≡ true
    → (all_written (positions_in d j n) ≡ true) × (in_turn kind quarters last (positions_in d j n) ≡ true)
unfolding in_turn drawn positions_in all_written
positions-told d kind quarters last j zero h = (refl, refl)
positions-told d kind quarters last j (suc n) h =
    let q = get_or d.positions j 0 in
    let p = position_of (pos_tag d j) in
    let a = (and-eq-true_iff (position_fits kind quarters last p) (in_turn kind quarters p (map position_of (drawn d (pos_tag d) (suc j) n)))).0 h in
    ⊎_elim
    (λ (z : p ≡ 0). absurd (zero-unfit kind quarters last (rw z at a.0)))
    (λ (z : (p ≡ q) × (q ≤ 99999)).
    let fits : position_fits kind quarters last q ≡ true = rw z.0 at a.0 in
    let more = positions-told d kind quarters q (suc j) n (rw z.0 at a.1) in
    let some : 1 ≤ q = ⊎_elim (λ (c : (0 < q) × (ltb 0 q ≡ true)). c.0) (λ (c : (q ≤ 0) × (ltb 0 q ≡ false)). let n0 : q ≡ 0 = omega (arith, c.0) in absurd (zero-unfit kind quarters last (rw n0 at fits))) (ltb-cases 0 q) in
    let own : cond (leb 1 q) (leb q 99999) false ≡ true = rw (le-leb 1 q some) (le-leb q 99999 z.1) in
    (both_so _ _ own more.0, both_so _ _ fits more.1))
    (position-or-none q)

-- ---- amounts

pub record AmountsTold (kind : ℕ) (rows : List ℕ) : Type 0 where
  pub back : (p : Period) (t : List ℕ) → element_fits kind p (get_or rows (suc (suc (role_row interval_role rows))) 0) (number_tag t) ≡ true → written_amount (dropped (says t)) ≡ true

told-one : AmountsTold 1 beschaffungsanforderung
unfolding beschaffungsanforderung element_no names number_in same name_of form_of scheme_of role_of collapsed role_row asks_v asks_scheme agree no_demands message_alone kind_one kind_at demands_at meets no_others
    dtd_agrees attributes_agree scheme_fits value_fits element_fits sayings given bytes number_tag no_dtd_said judge form_refusal unless amount amount_of
told-one =
    record { back = λ p t e. ⊎_elim (λ y. y) (λ (y : written_amount (dropped (says t)) ≡ false). never (rw y at e)) (bool_cases (written_amount (dropped (says t)))) }

told-two : AmountsTold 2 kostenblatt
unfolding kostenblatt element_no names number_in same name_of form_of scheme_of role_of collapsed role_row asks_v asks_scheme agree no_demands message_alone kind_two kind_at demands_at meets no_others
    dtd_agrees attributes_agree scheme_fits value_fits element_fits sayings given bytes number_tag no_dtd_said judge form_refusal unless amount amount_of
told-two =
    record { back = λ p t e. ⊎_elim (λ y. y) (λ (y : written_amount (dropped (says t)) ≡ false). never (rw y at e)) (bool_cases (written_amount (dropped (says t)))) }

amounts-told : (kind : ℕ) → cond (eqb kind 1) true (eqb kind 2) ≡ true → AmountsTold kind (rows_of kind)
unfolding rows_of
amounts-told kind h =
    ⊎_elim
    (λ (y : (kind ≡ 1) × (eqb kind 1 ≡ true)). rw y.0 told-one)
    (λ (y : (kind ≡ 1 → ⊥) × (eqb kind 1 ≡ false)). let e : eqb kind 2 ≡ true = rw y.1 at h in rw (eqb-true kind 2 e) told-two)
    (eqb-cases kind 1)

amounts-fit : (d : Draft) (rows : List ℕ) (p : Period) → AmountsTold d.kind rows → (j n : ℕ) → Fit d rows p (intervals_from d (role_row interval_role rows) j n) → amounts_fit d j n ≡ true
unfolding intervals_from amounts_fit Each
amounts-fit d rows p a j zero f = refl
amounts-fit d rows p a j (suc n) f =
    let m = get_or d.amounts j (pos 0) in
    let s = amount-said m in
    let w : written_amount (dropped (says (amount_text m))) ≡ true = a.back p (amount_text m) f.1.2.0 in
    let v : written_amount (amount_text m) ≡ true = rw (s.0, s.1) at w in
    both_so _ _ (lt-ltb (nat_abs m) 1000000000000000 (small-amount m v)) (amounts-fit d rows p a (suc j) n f.2)

-- ---- rows behind the single values

among_one : (s n j : ℕ) → Among j (replicate n s) → j ≡ s
unfolding Among
among_one s zero j h = absurd h
among_one s (suc n) j h = ⊎_elim (λ e. e) (λ g. among_one s n j g) h

said-below : (d : Draft) (ws : List ℕ) (q k j : ℕ) → Among j (said_rows d q k ws ++ []) → j < q + lead ws
unfolding said_rows Among lead
said-below d [] q k j h = absurd h
said-below d (w ∷ ws) q k j h = by (asks_v w) (is_said (single_tag d w k)) refl refl (said-below d ws (suc q) (k + values_of w) j)
  where
    by : (a s : Bool) → asks_v w ≡ a → is_said (single_tag d w k) ≡ s → (Among j (said_rows d (suc q) (k + values_of w) ws ++ []) → j < suc q + lead ws) → j < q + lead (w ∷ ws)
    by false s y z ih = absurd (rw y at h)
    by true true y z ih =
        let g : (j ≡ q) ⊎ Among j (said_rows d (suc q) (k + values_of w) ws ++ []) = rw (y, z) at h in
        rw y (⊎_elim (λ e. omega (arith, e)) (λ e. let l = ih e in omega (arith, l)) g)
    by true false y z ih = let g : Among j (said_rows d (suc q) (k + values_of w) ws ++ []) = rw (y, z) at h in let l = ih g in rw y (omega (arith, l))

each-behind : (d : Draft) (rows : List ℕ) (behind : Trees TagSaid) (ws : List ℕ) (q k : ℕ) → EachConforms rows (singles d q k ws behind) → EachConforms rows behind
unfolding singles EachConforms rows_taken
each-behind d rows behind [] q k c = c
each-behind d rows behind (w ∷ ws) q k c = by (asks_v w) (is_said (single_tag d w k)) refl refl (each-behind d rows behind ws (suc q) (k + values_of w))
  where
    by : (a s : Bool) → asks_v w ≡ a → is_said (single_tag d w k) ≡ s → (EachConforms rows (singles d (suc q) (k + values_of w) ws behind) → EachConforms rows behind) → EachConforms rows behind
    by false s y z ih = rw y at c
    by true true y z ih =
        let g : Fits rows q [] × Unit {0} × EachConforms rows (singles d (suc q) (k + values_of w) ws behind) = rw (y, z) at c in ih g.2
    by true false y z ih = ih (rw (y, z) at c)

ltb-below : (a b : ℕ) → ltb a b ≡ true → a < b
ltb-below a b e = ⊎_elim (λ y. y.0) (λ y. never (sym y.1 ∙ e)) (ltb-cases a b)

stands-in : (rows : List ℕ) (p : ℕ) (ws : List ℕ) (q : ℕ) → ws ≡ drop q rows → stand_in p ws ≡ true → (j : ℕ) → q ≤ j → j < q + lead ws → parent_of (get_or rows j 0) ≡ p
unfolding stand_in lead
stands-in rows p [] q e h j low high = absurd (omega arith)
stands-in rows p (w ∷ ws) q e h j low high =
    by (asks_v w) refl (λ (g : stand_in p ws ≡ true) (l : suc q ≤ j) (m : j < suc q + lead ws). stands-in rows p ws (suc q) (row-there rows q w ws e).1 g j l m)
  where
    by : (a : Bool) → asks_v w ≡ a → (stand_in p ws ≡ true → suc q ≤ j → j < suc q + lead ws → parent_of (get_or rows j 0) ≡ p) → parent_of (get_or rows j 0) ≡ p
    by false y ih = let z : j < q + 0 = rw y at high in absurd (omega (arith, z))
    by true y ih =
        let u = (and-eq-true_iff (eqb (parent_of w) p) (stand_in p ws)).0 (rw y at h) in
        let z : j < q + suc (lead ws) = rw y at high in
        ⊎_elim
        (λ (n : (j ≡ q) × (eqb j q ≡ true)). ap (λ (i : ℕ). parent_of (get_or rows i 0)) n.0 ∙ ap parent_of (row-there rows q w ws e).0 ∙ eqb-true (parent_of w) p u.0)
        (λ (n : (j ≡ q → ⊥) × (eqb j q ≡ false)). ih u.1 (past q j low n.0) (omega (arith, z)))
        (eqb-cases j q)
      where
        past : (q j : ℕ) → q ≤ j → (j ≡ q → ⊥) → suc q ≤ j
        past q j l g = ⊎_elim (λ (c : (q < j) × (ltb q j ≡ true)). c.0) (λ (c : (j ≤ q) × (ltb q j ≡ false)). absurd (g (omega (arith, c.0)))) (ltb-cases q j)

-- a level of a content that fits and conforms: t are the rows behind the single values
module _ (d : Draft) (rows : List ℕ) (p : Period) (at q s : ℕ) (v : Level rows at q s) (behind : Trees TagSaid) (t : List ℕ) (same : (j : ℕ) → Among j t → j ≡ s) where
  level-back : (k : ℕ) → rows_taken behind ≡ t → Fits rows at (rows_taken (singles d q k (drop q rows) behind)) → Fit d rows p (singles d q k (drop q rows) behind)
      → (singles_fit d p k (drop q rows) ≡ true) × Fit d rows p behind
  level-back k e c f =
      let taken : rows_taken (singles d q k (drop q rows) behind) ≡ said_rows d q k (drop q rows) ++ t = singles-taken d rows behind (drop q rows) q k ∙ ap (λ (l : List ℕ). said_rows d q k (drop q rows) ++ l) e in
      let fits : Fits rows at (said_rows d q k (drop q rows) ++ t) = subst (Fits rows at) taken c in
      fit-back d rows t p behind (drop q rows) q k refl f
      (λ j h. let z = same j h in let n = v.next in omega (arith, z, n))
      (λ j low high r. fits.complete j (inside j low high) (stands j low high) r)
    where
      inside : (j : ℕ) → q ≤ j → j < q + lead (drop q rows) → j < length rows
      inside j low high = let n = v.next in let l = ltb-below s (length rows) v.there in omega (arith, n, l)

      stands : (j : ℕ) → q ≤ j → j < q + lead (drop q rows) → parent_of (get_or rows j 0) ≡ at
      stands j low high = stands-in rows at (drop q rows) q refl v.standing j low high

-- ---- the whole

-- a series, and an Interval, have to come
pub record Needed (rows : List ℕ) : Type 0 where
  pub series : required (get_or rows (role_row series_role rows) 0) ≡ true

needed-one : Needed beschaffungsanforderung
unfolding beschaffungsanforderung element_no names number_in same name_of role_of role_row required
needed-one = record { series = refl }

needed-two : Needed kostenblatt
unfolding kostenblatt element_no names number_in same name_of role_of role_row required
needed-two = record { series = refl }

needed : (kind : ℕ) → cond (eqb kind 1) true (eqb kind 2) ≡ true → Needed (rows_of kind)
unfolding rows_of
needed kind h =
    ⊎_elim
    (λ (y : (kind ≡ 1) × (eqb kind 1 ≡ true)). rw y.1 needed-one)
    (λ (y : (kind ≡ 1 → ⊥) × (eqb kind 1 ≡ false)). let e : eqb kind 2 ≡ true = rw y.1 at h in rw (y.1, e) needed-two)
    (eqb-cases kind 1)

-- no Period is without an Interval
enough-some : (kind n : ℕ) → cond (eqb kind 1) true (eqb kind 2) ≡ true → has_enough kind n ≡ true → leb 1 n ≡ true
unfolding has_enough kind_at kind_one kind_two
enough-some kind n h e =
    ⊎_elim
    (λ (y : (kind ≡ 1) × (eqb kind 1 ≡ true)). least 92 (omega arith) (rw y.0 at e))
    (λ (y : (kind ≡ 1 → ⊥) × (eqb kind 1 ≡ false)). let z : eqb kind 2 ≡ true = rw y.1 at h in least 1 (omega arith) (rw (eqb-true kind 2 z) at e))
    (eqb-cases kind 1)
  where
    least : (m : ℕ) → 1 ≤ m → leb m n ≡ true → leb 1 n ≡ true
    least m l g = le-leb 1 n (⊎_elim (λ (w : (m ≤ n) × (leb m n ≡ true)). let o = w.0 in omega (arith, o)) (λ (w : (n < m) × (leb m n ≡ false)). never (sym w.1 ∙ g)) (leb-cases m n))

some-counted : (kind quarters n : ℕ) → cond (eqb kind 1) true (eqb kind 2) ≡ true → count_fits kind quarters n ≡ true → leb 1 n ≡ true
unfolding count_fits
some-counted kind quarters n h e =
    let a = (and-eq-true_iff (has_enough kind n && within_most kind n) _).0 e in
    let x = (and-eq-true_iff (has_enough kind n) (within_most kind n)).0 a.0 in
    enough-some kind n h x.0

all-apart : (l : List (List ℕ)) → Apart l → all_apart l ≡ true
unfolding all_apart Apart
all-apart [] h = refl
all-apart (x ∷ l) h = let free : not (is_among x l) ≡ true = rw h.0 refl in both_so _ _ free (all-apart l h.1)

module _ (d : Draft) (kind : cond (eqb d.kind 1) true (eqb d.kind 2) ≡ true) (p : Period) where
  abbrev rows : List ℕ
  rows = rows_of d.kind

  abbrev v : Levels rows
  v = levels d.kind kind

  abbrev r : Roles rows
  r = roles d.kind kind

  each-series : (P : Trees TagSaid → Type 0) (i n : ℕ) → All P (in_each (has_role series_role) rows (series_from d rows i n))
      → (j : ℕ) → i ≤ j → j < i + n → P (singles_in d rows (role_row series_role rows) j (period_tree d rows j))
  unfolding series_from in_each All
  each-series P i zero h j l m = absurd (omega arith)
  each-series P i (suc n) h j l m =
      let g : All P (singles_in d rows (role_row series_role rows) i (period_tree d rows i) ∷ in_each (has_role series_role) rows (series_from d rows (suc i) n)) =
      rw (r.series, inner-series d rows r (outside d.kind kind) i) at h in
      ⊎_elim
      (λ (y : (j ≡ i) × (eqb j i ≡ true)). subst (λ (z : ℕ). P (singles_in d rows (role_row series_role rows) z (period_tree d rows z))) (sym y.0) g.0)
      (λ (y : (j ≡ i → ⊥) × (eqb j i ≡ false)). each-series P (suc i) n g.1 j (past y.0 l) (omega arith))
      (eqb-cases j i)
    where
      past : (j ≡ i → ⊥) → i ≤ j → suc i ≤ j
      past g l = ⊎_elim (λ (c : (i < j) × (ltb i j ≡ true)). c.0) (λ (c : (j ≤ i) × (ltb i j ≡ false)). absurd (g (omega (arith, c.0)))) (ltb-cases i j)

  one-fits : (i : ℕ) → SeriesFits d.kind (quarters_of p) rows (singles_in d rows (role_row series_role rows) i (period_tree d rows i))
      → Fits rows (role_row series_role rows) (rows_taken (singles_in d rows (role_row series_role rows) i (period_tree d rows i)))
      → EachConforms rows (singles_in d rows (role_row series_role rows) i (period_tree d rows i)) → Fit d rows p (singles_in d rows (role_row series_role rows) i (period_tree d rows i))
      → series_fits d rows p i ≡ true
  unfolding series_fits singles_in Each EachConforms period_tree
  one-fits i s c e f =
      let sr = role_row series_role rows in
      let pr = role_row period_role rows in
      let ir = role_row interval_role rows in
      let first = field_at d.series i FirstRow in
      let count = field_at d.series i Count in
      let outer = level-back d rows p sr (suc sr) pr v.series (period_tree d rows i) (pr ∷ []) (among_one pr 1) (pair_for rows (suc sr) i) (period-taken d rows i) c f in
      let ec = each-behind d rows (period_tree d rows i) (drop (suc sr) rows) (suc sr) (pair_for rows (suc sr) i) e in
      let inside = level-back d rows p pr (suc pr) ir v.period (intervals_from d ir first count) (replicate count ir) (among_one ir count) (pair_for rows (suc pr) i) (intervals-taken d ir first count) ec.0 outer.1.1 in
      let cf : count_fits d.kind (quarters_of p) count ≡ true = ap (count_fits d.kind (quarters_of p)) (sym (series-counted d rows r i)) ∙ s.intervals in
      let turn = positions-told d d.kind (quarters_of p) 0 first count
      (ap (λ (l : List TagSaid). in_turn d.kind (quarters_of p) 0 (map position_of l)) (sym (in-series-those d (has_role pos_role) rows (pos_tag d) (positions-inside d rows r) i)) ∙ s.positions) in
      let o = originals_said d (pair_for rows (suc sr) i) (drop (suc sr) rows) in
      let so = series-originals d rows r (outside d.kind kind) i in
      let of : cond (eqb o 0) true (eqb o 5) ≡ true =
      ⊎_elim (λ z. let w : o ≡ 0 = sym so ∙ z in rw w refl) (λ z. let w : o ≡ 5 = sym so ∙ z in rw w refl) s.originals in
      both_so _ _
      (both_so _ _
      (both_so _ _
      (both_so _ _ (both_so _ _ (both_so _ _ (both_so _ _ outer.0 inside.0) of) cf) (some-counted d.kind (quarters_of p) count kind cf)) turn.0) turn.1)
      (amounts-fit d rows p (amounts-told d.kind kind) first count inside.1)

  every-fits : (i n : ℕ) → ((j : ℕ) → i ≤ j → j < i + n → SeriesFits d.kind (quarters_of p) rows (singles_in d rows (role_row series_role rows) j (period_tree d rows j)))
      → EachConforms rows (series_from d rows i n) → Fit d rows p (series_from d rows i n) → every_series d rows p i n ≡ true
  unfolding series_from every_series EachConforms Each
  every-fits i zero s c f = refl
  every-fits i (suc n) s c f =
      both_so _ _ (one-fits i (s i (omega arith) (omega arith)) c.0 c.1 f.1) (every-fits (suc i) n (λ j l h. s j (omega arith) (omega arith)) c.2 f.2)

-- a draft has a series where its content conforms
some-series : (d : Draft) (kind : cond (eqb d.kind 1) true (eqb d.kind 2) ≡ true) (k : ℕ)
    → Fits (rows_of d.kind) 1 (rows_taken (singles d 2 k (drop 2 (rows_of d.kind)) (series_from d (rows_of d.kind) 0 d.count))) → leb 1 d.count ≡ true
some-series d kind k c =
    let rows = rows_of d.kind in
    let v = levels d.kind kind in
    let s = role_row series_role rows in
    ⊎_elim
    (λ (y : (d.count ≡ 0) × (eqb d.count 0 ≡ true)).
    let taken : rows_taken (singles d 2 k (drop 2 rows) (series_from d rows 0 d.count)) ≡ said_rows d 2 k (drop 2 rows) ++ [] =
    singles-taken d rows (series_from d rows 0 d.count) (drop 2 rows) 2 k
    ∙ ap (λ (l : List ℕ). said_rows d 2 k (drop 2 rows) ++ l) (series-taken d rows 0 d.count ∙ ap (λ (n : ℕ). replicate n s) y.0) in
    let f : Fits rows 1 (said_rows d 2 k (drop 2 rows) ++ []) = subst (Fits rows 1) taken c in
    let l = said-below d (drop 2 rows) 2 k s (f.complete s (ltb-below s (length rows) v.header.there) v.header.parent (needed d.kind kind).series) in
    let n = v.header.next in
    absurd (omega (arith, l, n)))
    (λ (y : (d.count ≡ 0 → ⊥) × (eqb d.count 0 ≡ false)). le-leb 1 d.count (let g = y.0 in more g))
    (eqb-cases d.count 0)
  where
    more : (d.count ≡ 0 → ⊥) → 1 ≤ d.count
    more g = ⊎_elim (λ (c : (0 < d.count) × (ltb 0 d.count ≡ true)). c.0) (λ (c : (d.count ≤ 0) × (ltb 0 d.count ≡ false)). absurd (g (omega (arith, c.0)))) (ltb-cases 0 d.count)

-- a draft whose content is legal is judged fit
pub legal-draft : (d : Draft) → cond (eqb d.kind 1) true (eqb d.kind 2) ≡ true → Legal d.kind (draft_content d) → draft_legal d ≡ true
unfolding draft_legal draft_content singles_in Each EachConforms in_each
legal-draft d kind l =
    let rows = rows_of d.kind in
    let p = period_of rows (draft_content d) in
    let r = roles d.kind kind in
    let v = levels d.kind kind in
    let s = role_row series_role rows in
    let k = pair_for rows 2 0 in
    let content = series_from d rows 0 d.count in
    let c = l.conforms.each in
    let f = l.elements in
    let header = level-back d rows p 1 2 s v.header content (replicate d.count s) (among_one s d.count) k (series-taken d rows 0 d.count) c.0 f.1 in
    let ec = each-behind d rows content (drop 2 rows) 2 k c.1 in
    let told : All (SeriesFits d.kind (quarters_of p) rows) (in_each (has_role series_role) rows content) =
    subst (All (SeriesFits d.kind (quarters_of p) rows))
    (append-nil _ ∙ singles-in-each (has_role series_role) d rows content (drop 2 rows) 2 k refl (plain-intervals d rows r (drop 2 rows) r.in-header).0)
    (rw r.root at l.series) in
    both_so _ _
    (both_so _ _
    (both_so _ _ (both_so _ _ f.0 header.0) (some-series d kind k c.0))
    (every-fits d kind p 0 d.count (each-series d kind p (SeriesFits d.kind (quarters_of p) rows) 0 d.count told) ec header.1))
    (all-apart (identifications rows (draft_content d)) l.apart)
