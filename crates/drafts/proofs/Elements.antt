-- Which elements the content of a draft has. Assumes nothing.
use Prim.Native.Nat.{ℕ, zero, suc, ◌+◌}
use mathlib.Core.Path.{◌≡◌, refl, sym, ap, ◌∙◌}
use mathlib.Core.List.{List, [], ◌∷◌, ◌++◌, map, append-nil, append_assoc}
use mathlib.Core.Bool.{Bool, true, false, cond, ◌&&◌, not, and-eq-true_iff}
use mathlib.Core.Logic.{⊎_elim}
use native.Mathlib.Omega.{arith}
use lib.Dec.{eqb}
use lib.IntN.{ℤ, pos}
use lib.ListN.{length, drop, get_or}
use Rattle.lists.proofs.Cases.{bool_cases, eqb-cases, never}
use Rattle.columns.specs.Columns.{form_of, scheme_of, role_of, series_role, period_role, interval_role, pos_role, qty_role}
use Rattle.structure.specs.Rows.{name_of}
use Rattle.guideline.specs.Rows.{beschaffungsanforderung, kostenblatt, rows_of}
use Rattle.elements.specs.Names.{names, number_in, element_no}
use Rattle.slices.specs.Same.{same}
use Rattle.states.specs.Attributes.{asks_v}
use Rattle.series.specs.Row.{field_at}
use Rattle.series.specs.declared.Field.TheVariants.{FirstRow, Count}
use Rattle.views.specs.Layout.{values_of}
use Rattle.trees.specs.Trees.{Trees, none, element}
use Rattle.contents.specs.Said.{TagSaid}
use Rattle.contents.specs.Legal.{has_role, those, in_each}
use Rattle.wholes.specs.Whole.{whole_text}
use Rattle.amounts.specs.Texts.{amount_text}
use Rattle.drafts.specs.Draft.{Draft, single_tag, is_said, root_tag, bare_tag, number_tag, singles, intervals_from, role_row, pair_for, singles_in, period_tree, series_from, draft_content}
use Rattle.drafts.proofs.Writing.{row-there}

-- ---- rows at the front that a test leaves out

-- no row with a `v` at the front passes the test
unfoldable pub leaves_out : (ℕ → Bool) → List ℕ → Bool
leaves_out test [] = true
leaves_out test (w ∷ ws) = cond (asks_v w) (not (test w) && leaves_out test ws) true

left_out : (test : ℕ → Bool) (w : ℕ) (ws : List ℕ) → asks_v w ≡ true → leaves_out test (w ∷ ws) ≡ true → (test w ≡ false) × (leaves_out test ws ≡ true)
unfolding leaves_out
left_out test w ws y h =
    let t = (and-eq-true_iff (not (test w)) (leaves_out test ws)).0 (rw y at h) in
    (⊎_elim (λ z. never (rw z at t.0)) (λ z. z) (bool_cases (test w)), t.1)

module _ (test : ℕ → Bool) (d : Draft) (rows : List ℕ) (behind : Trees TagSaid) where
  pub singles-those : (ws : List ℕ) (q k : ℕ) → ws ≡ drop q rows → leaves_out test ws ≡ true → those test rows (singles d q k ws behind) ≡ those test rows behind
  unfolding singles those
  singles-those [] q k e h = refl
  singles-those (w ∷ ws) q k e h = by (asks_v w) refl (λ (s : leaves_out test ws ≡ true). singles-those ws (suc q) (k + values_of w) (row-there rows q w ws e).1 s)
    where
      rest : Trees TagSaid
      rest = singles d (suc q) (k + values_of w) ws behind

      by : (a : Bool) → asks_v w ≡ a → (leaves_out test ws ≡ true → those test rows rest ≡ those test rows behind)
          → those test rows (cond (asks_v w) (cond (is_said (single_tag d w k)) (element q (single_tag d w k) none rest) rest) behind) ≡ those test rows behind
      by false y ih = rw y refl
      by true y ih =
          let o = left_out test w ws y h in
          let here : test (get_or rows q 0) ≡ false = ap test (row-there rows q w ws e).0 ∙ o.0 in
          rw y (⊎_elim (λ (s : is_said (single_tag d w k) ≡ true). rw (s, here) (ih o.1)) (λ (s : is_said (single_tag d w k) ≡ false). rw s (ih o.1)) (bool_cases (is_said (single_tag d w k))))

  pub singles-in-each : (ws : List ℕ) (q k : ℕ) → ws ≡ drop q rows → leaves_out test ws ≡ true → in_each test rows (singles d q k ws behind) ≡ in_each test rows behind
  unfolding singles in_each
  singles-in-each [] q k e h = refl
  singles-in-each (w ∷ ws) q k e h = by (asks_v w) refl (λ (s : leaves_out test ws ≡ true). singles-in-each ws (suc q) (k + values_of w) (row-there rows q w ws e).1 s)
    where
      rest : Trees TagSaid
      rest = singles d (suc q) (k + values_of w) ws behind

      by : (a : Bool) → asks_v w ≡ a → (leaves_out test ws ≡ true → in_each test rows rest ≡ in_each test rows behind)
          → in_each test rows (cond (asks_v w) (cond (is_said (single_tag d w k)) (element q (single_tag d w k) none rest) rest) behind) ≡ in_each test rows behind
      by false y ih = rw y refl
      by true y ih =
          let o = left_out test w ws y h in
          let here : test (get_or rows q 0) ≡ false = ap test (row-there rows q w ws e).0 ∙ o.0 in
          rw y (⊎_elim (λ (s : is_said (single_tag d w k) ≡ true). rw (s, here) (ih o.1)) (λ (s : is_said (single_tag d w k) ≡ false). rw s (ih o.1)) (bool_cases (is_said (single_tag d w k))))

-- ---- the roles of the rows

-- no single value has the role of a series, of an Interval, of Pos or of Qty
unfoldable pub plain_rows : List ℕ → Bool
plain_rows ws =
    leaves_out (has_role series_role) ws && leaves_out (has_role interval_role) ws && leaves_out (has_role pos_role) ws && leaves_out (has_role qty_role) ws

pub record Roles (rows : List ℕ) : Type 0 where
  pub root : role_of (get_or rows 1 0) ≡ 1
  pub series : role_of (get_or rows (role_row series_role rows) 0) ≡ series_role
  pub period : role_of (get_or rows (role_row period_role rows) 0) ≡ period_role
  pub interval : role_of (get_or rows (role_row interval_role rows) 0) ≡ interval_role
  pub position : role_of (get_or rows (suc (role_row interval_role rows)) 0) ≡ pos_role
  pub amount : role_of (get_or rows (suc (suc (role_row interval_role rows))) 0) ≡ qty_role
  pub in-header : plain_rows (drop 2 rows) ≡ true
  pub in-series : plain_rows (drop (suc (role_row series_role rows)) rows) ≡ true
  pub in-period : plain_rows (drop (suc (role_row period_role rows)) rows) ≡ true

roles-one : Roles beschaffungsanforderung
unfolding beschaffungsanforderung element_no names number_in same name_of form_of scheme_of role_of asks_v role_row plain_rows leaves_out
roles-one = record { root = refl; series = refl; period = refl; interval = refl; position = refl; amount = refl; in-header = refl; in-series = refl; in-period = refl }

roles-two : Roles kostenblatt
unfolding kostenblatt element_no names number_in same name_of form_of scheme_of role_of asks_v role_row plain_rows leaves_out
roles-two = record { root = refl; series = refl; period = refl; interval = refl; position = refl; amount = refl; in-header = refl; in-series = refl; in-period = refl }

pub roles : (kind : ℕ) → cond (eqb kind 1) true (eqb kind 2) ≡ true → Roles (rows_of kind)
unfolding rows_of
roles kind h =
    ⊎_elim
    (λ (y : (kind ≡ 1) × (eqb kind 1 ≡ true)). rw y.1 roles-one)
    (λ (y : (kind ≡ 1 → ⊥) × (eqb kind 1 ≡ false)). let e : eqb kind 2 ≡ true = rw y.1 at h in rw (y.1, e) roles-two)
    (eqb-cases kind 1)

-- ---- what stands in the Intervals

module _ (d : Draft) where
  -- Pos and Qty of the Interval of row j
  abbrev pub pos_tag : ℕ → TagSaid
  pos_tag j = number_tag (whole_text (get_or d.positions j 0))

  abbrev pub qty_tag : ℕ → TagSaid
  qty_tag j = number_tag (amount_text (get_or d.amounts j (pos 0)))

  -- one for each of n rows from row j on
  unfoldable pub drawn : (ℕ → TagSaid) → ℕ → ℕ → List TagSaid
  drawn f j zero = []
  drawn f j (suc n) = f j ∷ drawn f (suc j) n

  -- and for each row of n series from series i on
  unfoldable pub drawn_from : (ℕ → TagSaid) → ℕ → ℕ → List TagSaid
  drawn_from f i zero = []
  drawn_from f i (suc n) = drawn f (field_at d.series i FirstRow) (field_at d.series i Count) ++ drawn_from f (suc i) n

  -- a test that only something in an Interval passes, and that gives one tag of each
  pub record Inside (test : ℕ → Bool) (rows : List ℕ) (f : ℕ → TagSaid) : Type 0 where
    pub root : test (get_or rows 1 0) ≡ false
    pub series : test (get_or rows (role_row series_role rows) 0) ≡ false
    pub period : test (get_or rows (role_row period_role rows) 0) ≡ false
    pub interval : test (get_or rows (role_row interval_role rows) 0) ≡ false
    pub one : (j : ℕ)
        → those test rows (element (suc (role_row interval_role rows)) (pos_tag j) none (element (suc (suc (role_row interval_role rows))) (qty_tag j) none none)) ≡ f j ∷ []
    pub in-header : leaves_out test (drop 2 rows) ≡ true
    pub in-series : leaves_out test (drop (suc (role_row series_role rows)) rows) ≡ true
    pub in-period : leaves_out test (drop (suc (role_row period_role rows)) rows) ≡ true

  module _ (test : ℕ → Bool) (rows : List ℕ) (f : ℕ → TagSaid) (w : Inside test rows f) where
    intervals-those : (j n : ℕ) → those test rows (intervals_from d (role_row interval_role rows) j n) ≡ drawn f j n
    unfolding intervals_from those drawn
    intervals-those j zero = refl
    intervals-those j (suc n) = rw w.interval (ap (λ (l : List TagSaid). l ++ those test rows (intervals_from d (role_row interval_role rows) (suc j) n)) (w.one j) ∙ ap (λ (l : List TagSaid). f j ∷ l) (intervals-those (suc j) n))

    period-those : (i : ℕ) → those test rows (period_tree d rows i) ≡ drawn f (field_at d.series i FirstRow) (field_at d.series i Count)
    unfolding period_tree singles_in those
    period-those i =
        rw w.period
        (append-nil _
        ∙ singles-those test d rows _ (drop (suc (role_row period_role rows)) rows) (suc (role_row period_role rows)) _ refl w.in-period
        ∙ intervals-those (field_at d.series i FirstRow) (field_at d.series i Count))

    pub in-series-those : (i : ℕ)
        → those test rows (singles_in d rows (role_row series_role rows) i (period_tree d rows i)) ≡ drawn f (field_at d.series i FirstRow) (field_at d.series i Count)
    unfolding singles_in
    in-series-those i =
        singles-those test d rows _ (drop (suc (role_row series_role rows)) rows) (suc (role_row series_role rows)) _ refl w.in-series ∙ period-those i

    series-those : (i n : ℕ) → those test rows (series_from d rows i n) ≡ drawn_from f i n
    unfolding series_from those drawn_from
    series-those i zero = refl
    series-those i (suc n) =
        rw w.series
        (ap (λ (l : List TagSaid). l ++ those test rows (series_from d rows (suc i) n)) (in-series-those i)
        ∙ ap (λ (l : List TagSaid). drawn f (field_at d.series i FirstRow) (field_at d.series i Count) ++ l) (series-those (suc i) n))

-- of the whole content
pub draft-those : (d : Draft) (test : ℕ → Bool) (f : ℕ → TagSaid) → Inside d test (rows_of d.kind) f → those test (rows_of d.kind) (draft_content d) ≡ drawn_from d f 0 d.count
unfolding draft_content singles_in those
draft-those d test f w =
    let rows = rows_of d.kind in
    rw w.root
    (append-nil _ ∙ singles-those test d rows _ (drop 2 rows) 2 _ refl w.in-header ∙ series-those d test rows f w 0 d.count)

module _ (d : Draft) (rows : List ℕ) (r : Roles rows) where
  plain-left : (ws : List ℕ) → plain_rows ws ≡ true → (leaves_out (has_role pos_role) ws ≡ true) × (leaves_out (has_role qty_role) ws ≡ true)
  unfolding plain_rows
  plain-left ws h =
      let a = (and-eq-true_iff (leaves_out (has_role series_role) ws && leaves_out (has_role interval_role) ws && leaves_out (has_role pos_role) ws) _).0 h in
      let b = (and-eq-true_iff (leaves_out (has_role series_role) ws && leaves_out (has_role interval_role) ws) _).0 a.0 in
      (b.1, a.1)

  pub positions-inside : Inside d (has_role pos_role) rows (pos_tag d)
  unfolding those
  positions-inside =
      record {
        root = rw r.root refl;
        series = rw r.series refl;
        period = rw r.period refl;
        interval = rw r.interval refl;
        one = λ j. rw (r.position, r.amount) refl;
        in-header = (plain-left (drop 2 rows) r.in-header).0;
        in-series = (plain-left (drop (suc (role_row series_role rows)) rows) r.in-series).0;
        in-period = (plain-left (drop (suc (role_row period_role rows)) rows) r.in-period).0;
      }

  pub amounts-inside : Inside d (has_role qty_role) rows (qty_tag d)
  unfolding those
  amounts-inside =
      record {
        root = rw r.root refl;
        series = rw r.series refl;
        period = rw r.period refl;
        interval = rw r.interval refl;
        one = λ j. rw (r.position, r.amount) refl;
        in-header = (plain-left (drop 2 rows) r.in-header).1;
        in-series = (plain-left (drop (suc (role_row series_role rows)) rows) r.in-series).1;
        in-period = (plain-left (drop (suc (role_row period_role rows)) rows) r.in-period).1;
      }
