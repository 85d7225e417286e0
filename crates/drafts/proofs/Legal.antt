-- A draft that is judged fit has a legal content. Assumes nothing.
use Prim.Native.Nat.{ℕ, zero, suc, ◌+◌, ◌≤◌, ◌<◌}
use mathlib.Core.Path.{◌≡◌, refl, sym, ap, ◌∙◌, subst}
use mathlib.Core.List.{List, [], ◌∷◌, ◌++◌, map, append-nil}
use mathlib.Core.Bool.{Bool, true, false, cond, ◌&&◌, not, and-eq-true_iff}
use mathlib.Core.Logic.{◌⊎◌, inl, inr, ⊎_elim}
use native.Mathlib.Omega.{arith}
use lib.Dec.{eqb, leb, ltb}
use lib.IntN.{ℤ, pos, nat_abs}
use lib.ListN.{length, drop, get_or, length-append}
use borrow.Author.Tests.{eqb-true}
use Rattle.lists.proofs.Cases.{bool_cases, eqb-cases, leb-cases, ltb-cases, both_true, never}
use Rattle.slices.specs.Same.{same}
use Rattle.elements.specs.Names.{names, number_in, element_no}
use Rattle.structure.specs.Rows.{name_of, required}
use Rattle.columns.specs.Columns.{form_of, scheme_of, role_of, collapsed, series_role, period_role, interval_role, original_role, pos_role, qty_role}
use Rattle.guideline.specs.Kinds.{no_demands, message_alone, kind_one, kind_two, kind_at, is_kind}
use Rattle.guideline.specs.Rows.{beschaffungsanforderung, kostenblatt, rows_of}
use Rattle.states.specs.Attributes.{agree, asks_v, asks_scheme, demands_at, meets, no_others}
use Rattle.rules.specs.Rules.{judge, form_refusal, unless, amount}
use Rattle.characters.specs.Says.{says}
use Rattle.trims.specs.Trim.{dropped}
use Rattle.numbers.specs.Amount.{amount_of}
use Rattle.std.specs.Prelude.{Some}
use Rattle.series.specs.Row.{field_at}
use Rattle.series.specs.declared.Field.TheVariants.{FirstRow, Count}
use Rattle.views.specs.Layout.{values_of}
use Rattle.trees.specs.Trees.{Trees, none, element}
use Rattle.contents.specs.Said.{AttributeValue, Absent, Given, TagSaid, given, bytes}
use Rattle.contents.specs.Legal.{has_role, has_form, those, in_each, sayings, Period, period_of, quarters_of, position_by, position_of, dtd_agrees, attributes_agree, scheme_fits, value_fits, element_fits, Each, in_turn, count_fits, SeriesFits, All, is_among, Apart, identifications, Legal}
use Rattle.wholes.specs.Whole.{whole_text}
use Rattle.amounts.specs.Texts.{amount_text}
use Rattle.drafts.specs.Draft.{Draft, single_tag, is_said, no_dtd_said, root_tag, bare_tag, number_tag, singles, intervals_from, role_row, pair_for, singles_in, period_tree, series_from, draft_content}
use Rattle.drafts.specs.Judged.{singles_fit, originals_said, positions_in, all_written, amounts_fit, series_fits, every_series, all_apart, draft_legal}
use Rattle.drafts.proofs.Writing.{row-there}
use Rattle.drafts.proofs.Order.{none_missing, NoneMissing, draft-conforms}
use Rattle.numbers.specs.Number.{number_of}
use Rattle.amounts.proofs.Promises.{amount-in-value, position-in-value}
use Rattle.drafts.proofs.Elements.{leaves_out, singles-those, singles-in-each, plain_rows, Roles, roles, pos_tag, drawn, in-series-those, positions-inside}

-- ---- single values

fit-none-missing : (d : Draft) (p : Period) (ws : List ℕ) (k : ℕ) → singles_fit d p k ws ≡ true → none_missing d k ws ≡ true
unfolding singles_fit none_missing
fit-none-missing d p [] k h = refl
fit-none-missing d p (w ∷ ws) k h = by (asks_v w) (is_said (single_tag d w k)) refl refl (fit-none-missing d p ws (k + values_of w))
  where
    by : (a s : Bool) → asks_v w ≡ a → is_said (single_tag d w k) ≡ s → (singles_fit d p (k + values_of w) ws ≡ true → none_missing d (k + values_of w) ws ≡ true)
        → none_missing d k (w ∷ ws) ≡ true
    by false s y z ih = rw y refl
    by true true y z ih = let t = (and-eq-true_iff (element_fits d.kind p w (single_tag d w k)) _).0 (rw (y, z) at h) in rw (y, z) (ih t.1)
    by true false y z ih =
        let t = (and-eq-true_iff (not (required w)) (singles_fit d p (k + values_of w) ws)).0 (rw (y, z) at h) in rw (y, z, t.0) (ih t.1)

module _ (d : Draft) (rows : List ℕ) (p : Period) where
  abbrev pub Fit : Trees TagSaid → Type 0
  Fit c = Each (element_fits d.kind p) rows c

  singles-fit : (behind : Trees TagSaid) → Fit behind → (ws : List ℕ) (q k : ℕ) → ws ≡ drop q rows → singles_fit d p k ws ≡ true → Fit (singles d q k ws behind)
  unfolding singles singles_fit Each
  singles-fit behind c [] q k e h = c
  singles-fit behind c (w ∷ ws) q k e h = by (asks_v w) (is_said (single_tag d w k)) refl refl (singles-fit behind c ws (suc q) (k + values_of w) (row-there rows q w ws e).1)
    where
      rest : Trees TagSaid
      rest = singles d (suc q) (k + values_of w) ws behind

      by : (a s : Bool) → asks_v w ≡ a → is_said (single_tag d w k) ≡ s → (singles_fit d p (k + values_of w) ws ≡ true → Each (element_fits d.kind p) rows rest)
          → Each (element_fits d.kind p) rows (cond (asks_v w) (cond (is_said (single_tag d w k)) (element q (single_tag d w k) none rest) rest) behind)
      by false s y z ih = rw y c
      by true true y z ih =
          let t = (and-eq-true_iff (element_fits d.kind p w (single_tag d w k)) _).0 (rw (y, z) at h) in
          rw (y, z) (rw (row-there rows q w ws e).0 t.0, tt, ih t.1)
      by true false y z ih = let t = (and-eq-true_iff (not (required w)) _).0 (rw (y, z) at h) in rw (y, z) (ih t.1)

-- ---- the tags of a series, its Period and its Intervals

pub record TagsFit (kind : ℕ) (rows : List ℕ) : Type 0 where
  pub series : (p : Period) → element_fits kind p (get_or rows (role_row series_role rows) 0) bare_tag ≡ true
  pub period : (p : Period) → element_fits kind p (get_or rows (role_row period_role rows) 0) bare_tag ≡ true
  pub interval : (p : Period) → element_fits kind p (get_or rows (role_row interval_role rows) 0) bare_tag ≡ true
  pub position : (p : Period) (t : List ℕ) → element_fits kind p (get_or rows (suc (role_row interval_role rows)) 0) (number_tag t) ≡ true
  pub amount : (p : Period) (t : List ℕ) (m : ℤ) → amount_of (dropped (says t)) ≡ Some m
      → element_fits kind p (get_or rows (suc (suc (role_row interval_role rows))) 0) (number_tag t) ≡ true

tags-one : TagsFit 1 beschaffungsanforderung
unfolding beschaffungsanforderung element_no names number_in same name_of form_of scheme_of role_of collapsed role_row asks_v asks_scheme agree no_demands message_alone kind_one kind_at demands_at meets no_others
    dtd_agrees attributes_agree scheme_fits value_fits element_fits sayings given bytes bare_tag number_tag no_dtd_said judge form_refusal unless amount
tags-one = record { series = λ p. refl; period = λ p. refl; interval = λ p. refl; position = λ p t. refl; amount = λ p t m e. rw e refl }

tags-two : TagsFit 2 kostenblatt
unfolding kostenblatt element_no names number_in same name_of form_of scheme_of role_of collapsed role_row asks_v asks_scheme agree no_demands message_alone kind_two kind_at demands_at meets no_others
    dtd_agrees attributes_agree scheme_fits value_fits element_fits sayings given bytes bare_tag number_tag no_dtd_said judge form_refusal unless amount
tags-two = record { series = λ p. refl; period = λ p. refl; interval = λ p. refl; position = λ p t. refl; amount = λ p t m e. rw e refl }

pub tags-fit : (kind : ℕ) → cond (eqb kind 1) true (eqb kind 2) ≡ true → TagsFit kind (rows_of kind)
unfolding rows_of
tags-fit kind h =
    ⊎_elim
    (λ (y : (kind ≡ 1) × (eqb kind 1 ≡ true)). rw y.0 tags-one)
    (λ (y : (kind ≡ 1 → ⊥) × (eqb kind 1 ≡ false)). let e : eqb kind 2 ≡ true = rw y.1 at h in rw (eqb-true kind 2 e) tags-two)
    (eqb-cases kind 1)

pub ltb-holds : (a b : ℕ) → ltb a b ≡ true → a < b
ltb-holds a b e = ⊎_elim (λ y. y.0) (λ y. never (sym y.1 ∙ e)) (ltb-cases a b)

leb-holds : (a b : ℕ) → leb a b ≡ true → a ≤ b
leb-holds a b e = ⊎_elim (λ y. y.0) (λ y. never (sym y.1 ∙ e)) (leb-cases a b)

module _ (d : Draft) (rows : List ℕ) (p : Period) (t : TagsFit d.kind rows) where
  intervals-fit : (j n : ℕ) → amounts_fit d j n ≡ true → Fit d rows p (intervals_from d (role_row interval_role rows) j n)
  unfolding intervals_from amounts_fit Each
  intervals-fit j zero h = tt
  intervals-fit j (suc n) h =
      let m = get_or d.amounts j (pos 0) in
      let a = (and-eq-true_iff (ltb (nat_abs m) 1000000000000000) _).0 h in (
        t.interval p,
        (t.position p (whole_text (get_or d.positions j 0)), tt, (t.amount p (amount_text m) m (amount-in-value m (ltb-holds _ _ a.0)), tt, tt)),
        intervals-fit (suc j) n a.1,
      )

  -- what a series that fits is said to have
  pub record Series (i : ℕ) : Type 0 where
    pub singles : singles_fit d p (pair_for rows (suc (role_row series_role rows)) i) (drop (suc (role_row series_role rows)) rows) ≡ true
    pub inner : singles_fit d p (pair_for rows (suc (role_row period_role rows)) i) (drop (suc (role_row period_role rows)) rows) ≡ true
    pub originals : (originals_said d (pair_for rows (suc (role_row series_role rows)) i) (drop (suc (role_row series_role rows)) rows) ≡ 0)
        ⊎ (originals_said d (pair_for rows (suc (role_row series_role rows)) i) (drop (suc (role_row series_role rows)) rows) ≡ 5)
    pub count : count_fits d.kind (quarters_of p) (field_at d.series i Count) ≡ true
    pub some : 1 ≤ field_at d.series i Count
    pub written : all_written (positions_in d (field_at d.series i FirstRow) (field_at d.series i Count)) ≡ true
    pub turn : in_turn d.kind (quarters_of p) 0 (positions_in d (field_at d.series i FirstRow) (field_at d.series i Count)) ≡ true
    pub amounts : amounts_fit d (field_at d.series i FirstRow) (field_at d.series i Count) ≡ true

  series-told : (i : ℕ) → series_fits d rows p i ≡ true → Series i
  unfolding series_fits
  series-told i h =
      let s = suc (role_row series_role rows) in
      let q = suc (role_row period_role rows) in
      let first = field_at d.series i FirstRow in
      let count = field_at d.series i Count in
      let x1 = singles_fit d p (pair_for rows s i) (drop s rows) in
      let x2 = singles_fit d p (pair_for rows q i) (drop q rows) in
      let o = originals_said d (pair_for rows s i) (drop s rows) in
      let x3 = cond (eqb o 0) true (eqb o 5) in
      let x4 = count_fits d.kind (quarters_of p) count in
      let x5 = leb 1 count in
      let x6 = all_written (positions_in d first count) in
      let x7 = in_turn d.kind (quarters_of p) 0 (positions_in d first count) in
      let t7 = (and-eq-true_iff (x1 && x2 && x3 && x4 && x5 && x6 && x7) (amounts_fit d first count)).0 h in
      let t6 = (and-eq-true_iff (x1 && x2 && x3 && x4 && x5 && x6) x7).0 t7.0 in
      let t5 = (and-eq-true_iff (x1 && x2 && x3 && x4 && x5) x6).0 t6.0 in
      let t4 = (and-eq-true_iff (x1 && x2 && x3 && x4) x5).0 t5.0 in
      let t3 = (and-eq-true_iff (x1 && x2 && x3) x4).0 t4.0 in
      let t2 = (and-eq-true_iff (x1 && x2) x3).0 t3.0 in
      let t1 = (and-eq-true_iff x1 x2).0 t2.0 in
      record {
        singles = t1.0;
        inner = t1.1;
        originals =
            ⊎_elim
            (λ (y : (o ≡ 0) × (eqb o 0 ≡ true)). inl y.0)
            (λ (y : (o ≡ 0 → ⊥) × (eqb o 0 ≡ false)). inr (eqb-true o 5 (rw y.1 at t2.1)))
            (eqb-cases o 0);
        count = t3.1;
        some = leb-holds 1 count t4.1;
        written = t5.1;
        turn = t6.1;
        amounts = t7.1;
      }

  period-fit : (i : ℕ) → Series i → Fit d rows p (period_tree d rows i)
  unfolding period_tree singles_in Each
  period-fit i w =
      let q = suc (role_row period_role rows) in (
        t.period p,
        singles-fit d rows p _ (intervals-fit (field_at d.series i FirstRow) (field_at d.series i Count) w.amounts) (drop q rows) q (pair_for rows q i) refl w.inner,
        tt,
      )

  series-fit : (i n : ℕ) → ((j : ℕ) → i ≤ j → j < i + n → Series j) → Fit d rows p (series_from d rows i n)
  unfolding series_from singles_in Each
  series-fit i zero w = tt
  series-fit i (suc n) w =
      let s = suc (role_row series_role rows) in
      let here = w i (omega arith) (omega arith) in (
        t.series p,
        singles-fit d rows p _ (period-fit i here) (drop s rows) s (pair_for rows s i) refl here.singles,
        series-fit (suc i) n (λ j l h. w j (omega arith) (omega arith)),
      )

  pub every-told : (i n : ℕ) → every_series d rows p i n ≡ true → (j : ℕ) → i ≤ j → j < i + n → Series j
  unfolding every_series
  every-told i zero h j l m = absurd (omega arith)
  every-told i (suc n) h j l m =
      let a = (and-eq-true_iff (series_fits d rows p i) (every_series d rows p (suc i) n)).0 h in
      ⊎_elim
      (λ (y : (j ≡ i) × (eqb j i ≡ true)). subst Series (sym y.0) (series-told i a.0))
      (λ (y : (j ≡ i → ⊥) × (eqb j i ≡ false)). let g = y.0 in every-told (suc i) n a.1 j (later g) (omega arith))
      (eqb-cases j i)
    where
      later : (j ≡ i → ⊥) → suc i ≤ j
      later g = ⊎_elim (λ (c : (i < j) × (ltb i j ≡ true)). c.0) (λ (c : (j ≤ i) × (ltb i j ≡ false)). absurd (g (omega (arith, c.0)))) (ltb-cases i j)

-- ---- what stands in a series

pub written-positions : (d : Draft) (j n : ℕ) → all_written (positions_in d j n) ≡ true → map position_of (drawn d (pos_tag d) j n) ≡ positions_in d j n
unfolding all_written positions_in drawn position_of position_by number_tag bytes
written-positions d j zero h = refl
written-positions d j (suc n) h =
    let q = get_or d.positions j 0 in
    let a = (and-eq-true_iff (cond (leb 1 q) (leb q 99999) false) _).0 h in
    let b = both_true (leb 1 q) a.0 in
    rw (position-in-value q (leb-holds 1 q b.0) (leb-holds q 99999 b.1)) (ap (λ (l : List ℕ). q ∷ l) (written-positions d (suc j) n a.1))

module _ (d : Draft) (rows : List ℕ) (r : Roles rows) where
  pub plain-intervals : (ws : List ℕ) → plain_rows ws ≡ true → (leaves_out (has_role series_role) ws ≡ true) × (leaves_out (has_role interval_role) ws ≡ true)
  unfolding plain_rows
  plain-intervals ws h =
      let a = (and-eq-true_iff (leaves_out (has_role series_role) ws && leaves_out (has_role interval_role) ws && leaves_out (has_role pos_role) ws) _).0 h in
      let b = (and-eq-true_iff (leaves_out (has_role series_role) ws && leaves_out (has_role interval_role) ws) _).0 a.0 in
      (and-eq-true_iff (leaves_out (has_role series_role) ws) _).0 b.0

  intervals-counted : (j n : ℕ) → length (those (has_role interval_role) rows (intervals_from d (role_row interval_role rows) j n)) ≡ n
  unfolding intervals_from those
  intervals-counted j zero = refl
  intervals-counted j (suc n) = rw (r.interval, r.position, r.amount) (ap suc (intervals-counted (suc j) n))

  pub series-counted : (i : ℕ) → length (those (has_role interval_role) rows (singles_in d rows (role_row series_role rows) i (period_tree d rows i))) ≡ field_at d.series i Count
  unfolding singles_in period_tree those
  series-counted i =
      let s = suc (role_row series_role rows) in
      let q = suc (role_row period_role rows) in
      ap length (singles-those (has_role interval_role) d rows (period_tree d rows i) (drop s rows) s (pair_for rows s i) refl (plain-intervals (drop s rows) r.in-series).1)
      ∙ rw r.period
      (ap length (append-nil _ ∙ singles-those (has_role interval_role) d rows _ (drop q rows) q (pair_for rows q i) refl (plain-intervals (drop q rows) r.in-period).1)
      ∙ intervals-counted (field_at d.series i FirstRow) (field_at d.series i Count))

  -- ---- the Originals

  originals-counted : (behind : Trees TagSaid) (ws : List ℕ) (q k : ℕ) → ws ≡ drop q rows
      → length (those (has_role original_role) rows (singles d q k ws behind)) ≡ originals_said d k ws + length (those (has_role original_role) rows behind)
  unfolding singles those originals_said
  originals-counted behind [] q k e = omega arith
  originals-counted behind (w ∷ ws) q k e =
      by (asks_v w) (is_said (single_tag d w k)) (eqb (role_of w) original_role) refl refl refl (originals-counted behind ws (suc q) (k + values_of w) (row-there rows q w ws e).1)
    where
      rest : Trees TagSaid
      rest = singles d (suc q) (k + values_of w) ws behind

      end : ℕ
      end = length (those (has_role original_role) rows behind)

      here : eqb (role_of (get_or rows q 0)) original_role ≡ eqb (role_of w) original_role
      here = ap (λ (x : ℕ). eqb (role_of x) original_role) (row-there rows q w ws e).0

      by : (a s o : Bool) → asks_v w ≡ a → is_said (single_tag d w k) ≡ s → eqb (role_of w) original_role ≡ o
          → length (those (has_role original_role) rows rest) ≡ originals_said d (k + values_of w) ws + end
          → length (those (has_role original_role) rows (cond (asks_v w) (cond (is_said (single_tag d w k)) (element q (single_tag d w k) none rest) rest) behind))
          ≡ originals_said d k (w ∷ ws) + end
      by false s o y z u ih = rw y (omega arith)
      by true true true y z u ih = rw (y, z, here, u) (ap suc ih ∙ omega arith)
      by true true false y z u ih = rw (y, z, here, u) ih
      by true false o y z u ih = rw (y, z) ih

-- no Original stands in a Period
pub Outside : List ℕ → Type 0
Outside rows = leaves_out (has_role original_role) (drop (suc (role_row period_role rows)) rows) ≡ true

outside-one : Outside beschaffungsanforderung
unfolding Outside beschaffungsanforderung element_no names number_in same name_of form_of role_of asks_v role_row leaves_out
outside-one = refl

outside-two : Outside kostenblatt
unfolding Outside kostenblatt element_no names number_in same name_of form_of role_of asks_v role_row leaves_out
outside-two = refl

pub outside : (kind : ℕ) → cond (eqb kind 1) true (eqb kind 2) ≡ true → Outside (rows_of kind)
unfolding rows_of
outside kind h =
    ⊎_elim
    (λ (y : (kind ≡ 1) × (eqb kind 1 ≡ true)). rw y.1 outside-one)
    (λ (y : (kind ≡ 1 → ⊥) × (eqb kind 1 ≡ false)). let e : eqb kind 2 ≡ true = rw y.1 at h in rw (y.1, e) outside-two)
    (eqb-cases kind 1)

module _ (d : Draft) (rows : List ℕ) (r : Roles rows) (o : Outside rows) where
  no-originals : (j n : ℕ) → those (has_role original_role) rows (intervals_from d (role_row interval_role rows) j n) ≡ []
  unfolding intervals_from those
  no-originals j zero = refl
  no-originals j (suc n) = rw (r.interval, r.position, r.amount) (no-originals (suc j) n)

  period-originals : (i : ℕ) → those (has_role original_role) rows (period_tree d rows i) ≡ []
  unfolding period_tree singles_in those Outside
  period-originals i =
      let q = suc (role_row period_role rows) in
      rw r.period
      (append-nil _
      ∙ singles-those (has_role original_role) d rows _ (drop q rows) q (pair_for rows q i) refl o
      ∙ no-originals (field_at d.series i FirstRow) (field_at d.series i Count))

  pub series-originals : (i : ℕ) → length (those (has_role original_role) rows (singles_in d rows (role_row series_role rows) i (period_tree d rows i)))
      ≡ originals_said d (pair_for rows (suc (role_row series_role rows)) i) (drop (suc (role_row series_role rows)) rows)
  unfolding singles_in
  series-originals i =
      let s = suc (role_row series_role rows) in
      originals-counted d rows r (period_tree d rows i) (drop s rows) s (pair_for rows s i) refl
      ∙ ap (λ (l : List TagSaid). originals_said d (pair_for rows s i) (drop s rows) + length l) (period-originals i)
      ∙ omega arith

  -- ---- the series

  no-series : (j n : ℕ) → in_each (has_role series_role) rows (intervals_from d (role_row interval_role rows) j n) ≡ []
  unfolding intervals_from in_each
  no-series j zero = refl
  no-series j (suc n) = rw (r.interval, r.position, r.amount) (no-series (suc j) n)

  pub inner-series : (i : ℕ) → in_each (has_role series_role) rows (singles_in d rows (role_row series_role rows) i (period_tree d rows i)) ≡ []
  unfolding singles_in period_tree in_each
  inner-series i =
      let s = suc (role_row series_role rows) in
      let q = suc (role_row period_role rows) in
      singles-in-each (has_role series_role) d rows (period_tree d rows i) (drop s rows) s (pair_for rows s i) refl (plain-intervals d rows r (drop s rows) r.in-series).0
      ∙ rw r.period
      (append-nil _
      ∙ singles-in-each (has_role series_role) d rows _ (drop q rows) q (pair_for rows q i) refl (plain-intervals d rows r (drop q rows) r.in-period).0
      ∙ no-series (field_at d.series i FirstRow) (field_at d.series i Count))

  all-series : (P : Trees TagSaid → Type 0) (i n : ℕ) → ((j : ℕ) → i ≤ j → j < i + n → P (singles_in d rows (role_row series_role rows) j (period_tree d rows j)))
      → All P (in_each (has_role series_role) rows (series_from d rows i n))
  unfolding series_from in_each All
  all-series P i zero w = tt
  all-series P i (suc n) w =
      rw (r.series, inner-series i) (w i (omega arith) (omega arith), all-series P (suc i) n (λ j l h. w j (omega arith) (omega arith)))

  module _ (p : Period) (t : TagsFit d.kind rows) where
    one-series : (i : ℕ) → Series d rows p t i → SeriesFits d.kind (quarters_of p) rows (singles_in d rows (role_row series_role rows) i (period_tree d rows i))
    one-series i w =
        let first = field_at d.series i FirstRow in
        let count = field_at d.series i Count in
        let e = series-originals i in
        record {
          positions =
              ap (λ (l : List ℕ). in_turn d.kind (quarters_of p) 0 l)
              (ap (map position_of) (in-series-those d (has_role pos_role) rows (pos_tag d) (positions-inside d rows r) i) ∙ written-positions d first count w.written)
              ∙ w.turn;
          intervals = ap (count_fits d.kind (quarters_of p)) (series-counted d rows r i) ∙ w.count;
          originals = ⊎_elim (λ z. inl (e ∙ z)) (λ z. inr (e ∙ z)) w.originals;
        }

-- ---- the whole

apart-all : (l : List (List ℕ)) → all_apart l ≡ true → Apart l
unfolding all_apart Apart
apart-all [] h = tt
apart-all (x ∷ l) h =
    let a = (and-eq-true_iff (not (is_among x l)) (all_apart l)).0 h in
    (⊎_elim (λ z. never (rw z at a.0)) (λ z. z) (bool_cases (is_among x l)), apart-all l a.1)

unconstrained : (kind : ℕ) → cond (eqb kind 1) true (eqb kind 2) ≡ true → (is_kind kind ≡ true) × ((kind_at kind).constrained ≡ false)
unfolding is_kind kind_at kind_one kind_two
unconstrained kind h =
    ⊎_elim
    (λ (y : (kind ≡ 1) × (eqb kind 1 ≡ true)). (rw y.1 refl, rw y.1 refl))
    (λ (y : (kind ≡ 1 → ⊥) × (eqb kind 1 ≡ false)). let e : eqb kind 2 ≡ true = rw y.1 at h in (rw (y.1, e) refl, rw (y.1, e) refl))
    (eqb-cases kind 1)

-- a draft that is judged fit has a legal content
pub draft-legal : (d : Draft) → cond (eqb d.kind 1) true (eqb d.kind 2) ≡ true → draft_legal d ≡ true → Legal d.kind (draft_content d)
unfolding draft_legal draft_content singles_in Each in_each
draft-legal d kind h =
    let rows = rows_of d.kind in
    let p = period_of rows (draft_content d) in
    let t = tags-fit d.kind kind in
    let r = roles d.kind kind in
    let x1 = element_fits d.kind p (get_or rows 1 0) (root_tag d) in
    let x2 = singles_fit d p (pair_for rows 2 0) (drop 2 rows) in
    let x3 = leb 1 d.count in
    let x4 = every_series d rows p 0 d.count in
    let t4 = (and-eq-true_iff (x1 && x2 && x3 && x4) (all_apart (identifications rows (draft_content d)))).0 h in
    let t3 = (and-eq-true_iff (x1 && x2 && x3) x4).0 t4.0 in
    let t2 = (and-eq-true_iff (x1 && x2) x3).0 t3.0 in
    let t1 = (and-eq-true_iff x1 x2).0 t2.0 in
    let told : (j : ℕ) → 0 ≤ j → j < 0 + d.count → Series d rows p t j = every-told d rows p t 0 d.count t3.1 in
    let one : (j : ℕ) → j < d.count → Series d rows p t j = λ j l. told j (omega arith) (omega arith) in
    let u = unconstrained d.kind kind in
    record {
      known = u.0;
      conforms =
          draft-conforms d kind
          (record {
            header = fit-none-missing d p (drop 2 rows) (pair_for rows 2 0) t1.1;
            some = leb-holds 1 d.count t2.1;
            series = λ i l. fit-none-missing d p _ _ (one i l).singles;
            period = λ i l. fit-none-missing d p _ _ (one i l).inner;
            intervals = λ i l. (one i l).some;
          });
      elements = (t1.0, singles-fit d rows p _ (series-fit d rows p t 0 d.count told) (drop 2 rows) 2 (pair_for rows 2 0) refl t1.1, tt);
      series =
          rw r.root
          (subst (All (SeriesFits d.kind (quarters_of p) rows))
          (sym (append-nil _ ∙ singles-in-each (has_role series_role) d rows (series_from d rows 0 d.count) (drop 2 rows) 2 (pair_for rows 2 0) refl (plain-intervals d rows r (drop 2 rows) r.in-header).0))
          (all-series d rows r (outside d.kind kind) (SeriesFits d.kind (quarters_of p) rows) 0 d.count
          (λ j l m. one-series d rows r (outside d.kind kind) p t j (told j l m))));
      constraint = rw u.1 refl;
      apart = apart-all (identifications rows (draft_content d)) t4.1;
    }
