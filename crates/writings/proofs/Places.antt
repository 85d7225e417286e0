-- Where the rows of single values stand, computed of the two kinds that are written. Assumes nothing.
use Prim.Native.Nat.{ℕ, zero, suc, ◌+◌, ◌≤◌, ◌<◌}
use mathlib.Core.Path.{◌≡◌, refl, sym, ◌∙◌}
use mathlib.Core.List.{List, [], ◌∷◌}
use mathlib.Core.Bool.{Bool, true, false, cond, ◌&&◌, not, and-eq-true_iff}
use mathlib.Core.Logic.{◌⊎◌, inl, inr, ⊎_elim}
use native.Mathlib.Omega.{arith}
use lib.Dec.{eqb, leb, ltb}
use lib.ListN.{length, get_or, take}
use borrow.Author.Tests.{eqb-true, eq-eqb, ne_eqb, ltb-true, leb-true, lt-ltb, le-ltb, le-leb}
use Rattle.lists.proofs.Cases.{bool_cases, eqb-cases, ltb-cases, never}
use Rattle.slices.specs.Same.{same}
use Rattle.elements.specs.Names.{names, number_in, element_no}
use Rattle.columns.specs.Columns.{form_of, scheme_of, role_of, root_role, series_role, period_role, interval_role}
use Rattle.structure.specs.Rows.{name_of}
use Rattle.guideline.specs.Rows.{beschaffungsanforderung, kostenblatt, rows_of}
use Rattle.guideline.proofs.Each.{each_row, row_of}
use Rattle.states.specs.Attributes.{asks_v, asks_scheme}
use Rattle.views.specs.Layout.{header_pairs, one_if, values_of, pair_after, pairs_after, first_pair}
use Rattle.drafts.specs.Draft.{role_row}

pub more : (a b : ℕ) → a ≤ b → (b ≡ a → ⊥) → a < b
more a b l h = omega arith

-- ---- the pair after those of a row

pairs_next : (k : ℕ) (rows : List ℕ) (r : ℕ) → r < length rows → pairs_after k (take (suc r) rows) ≡ pair_after (pairs_after k (take r rows)) (get_or rows r 0)
unfolding pairs_after
pairs_next k [] r h = absurd (omega (arith, h))
pairs_next k (w ∷ ws) zero h = refl
pairs_next k (w ∷ ws) (suc r) h = pairs_next (pair_after k w) ws r (omega (arith, h))

pub first_next : (rows : List ℕ) (r : ℕ) → r < length rows → eqb (role_of (get_or rows r 0)) series_role ≡ false
    → first_pair rows (suc r) ≡ first_pair rows r + values_of (get_or rows r 0)
unfolding first_pair pair_after
first_next rows r h e = pairs_next 0 rows r h ∙ rw e refl

-- ---- the rows

module _ (rows : List ℕ) where
  abbrev pub series_row : ℕ
  series_row = role_row series_role rows

  abbrev pub period_row : ℕ
  period_row = role_row period_role rows

  abbrev pub interval_row : ℕ
  interval_row = role_row interval_role rows

  -- those of the header, of a series and of its Period
  unfoldable pub is_single : ℕ → Bool
  is_single q = leb 2 q && not (eqb q series_row) && not (eqb q period_row) && ltb q interval_row

  unfoldable pub single_at : ℕ → ℕ → Bool
  single_at q w =
      asks_v w
      && not (eqb (role_of w) root_role)
      && not (eqb (role_of w) series_role)
      && eqb (values_of w) (1 + one_if (asks_scheme w))
      && cond (ltb q series_row) (ltb (first_pair rows q) header_pairs) (leb header_pairs (first_pair rows q))

  -- the root, a single value, or a row that has no pairs
  unfoldable pub row_stands : ℕ → ℕ → Bool
  row_stands q w = cond (is_single q) (single_at q w) (cond (eqb q 1) (eqb (first_pair rows q) 0) (eqb (values_of w) 0))

  pub record Places : Type 0 where
    pub each : each_row row_stands 0 rows ≡ true
    pub order : ltb 1 series_row && ltb series_row period_row && ltb period_row interval_row && ltb (suc (suc interval_row)) (length rows) ≡ true
    pub series : asks_v (get_or rows series_row 0) ≡ false
    pub period : asks_v (get_or rows period_row 0) ≡ false
    pub interval : asks_v (get_or rows interval_row 0) ≡ false

places-one : Places beschaffungsanforderung
unfolding beschaffungsanforderung element_no names number_in same name_of form_of scheme_of role_of asks_v asks_scheme values_of pair_after pairs_after first_pair role_row is_single single_at row_stands
places-one = record { each = refl; order = refl; series = refl; period = refl; interval = refl }

places-two : Places kostenblatt
unfolding kostenblatt element_no names number_in same name_of form_of scheme_of role_of asks_v asks_scheme values_of pair_after pairs_after first_pair role_row is_single single_at row_stands
places-two = record { each = refl; order = refl; series = refl; period = refl; interval = refl }

pub places : (kind : ℕ) → cond (eqb kind 1) true (eqb kind 2) ≡ true → Places (rows_of kind)
unfolding rows_of
places kind h =
    ⊎_elim
    (λ (y : (kind ≡ 1) × (eqb kind 1 ≡ true)). rw y.1 places-one)
    (λ (y : (kind ≡ 1 → ⊥) × (eqb kind 1 ≡ false)). let e : eqb kind 2 ≡ true = rw y.1 at h in rw (y.1, e) places-two)
    (eqb-cases kind 1)

-- ---- what they say

pub record Single (rows : List ℕ) (q : ℕ) : Type 0 where
  pub asks : asks_v (get_or rows q 0) ≡ true
  pub no-root : eqb (role_of (get_or rows q 0)) root_role ≡ false
  pub no-series : eqb (role_of (get_or rows q 0)) series_role ≡ false
  pub values : values_of (get_or rows q 0) ≡ 1 + one_if (asks_scheme (get_or rows q 0))
  pub header : q < role_row series_role rows → first_pair rows q < header_pairs
  pub later : role_row series_role rows < q → header_pairs ≤ first_pair rows q

-- by their pairs
module _ (rows : List ℕ) (q : ℕ) (o : Single rows q) (apart : q ≡ role_row series_role rows → ⊥) where
  pub side-header : first_pair rows q < header_pairs → q < role_row series_role rows
  side-header f =
      ⊎_elim (λ (y : (q < series_row rows) × (ltb q (series_row rows) ≡ true)). y.0)
      (λ (y : (series_row rows ≤ q) × (ltb q (series_row rows) ≡ false)). let a = o.later (more (series_row rows) q y.0 apart) in absurd (omega (arith, a, f)))
      (ltb-cases q (series_row rows))

  pub side-series : header_pairs ≤ first_pair rows q → role_row series_role rows < q
  side-series f =
      ⊎_elim (λ (y : (q < series_row rows) × (ltb q (series_row rows) ≡ true)). let a = o.header y.0 in absurd (omega (arith, a, f)))
      (λ (y : (series_row rows ≤ q) × (ltb q (series_row rows) ≡ false)). more (series_row rows) q y.0 apart)
      (ltb-cases q (series_row rows))

not-true : (a : Bool) → not a ≡ true → a ≡ false
not-true true e = never e
not-true false e = refl

module _ (rows : List ℕ) (p : Places rows) where
  pub in-order : (1 < series_row rows) × (series_row rows < period_row rows) × (period_row rows < interval_row rows) × (suc (suc (interval_row rows)) < length rows)
  in-order =
      let a = (and-eq-true_iff (ltb 1 (series_row rows) && ltb (series_row rows) (period_row rows) && ltb (period_row rows) (interval_row rows)) _).0 p.order in
      let b = (and-eq-true_iff (ltb 1 (series_row rows) && ltb (series_row rows) (period_row rows)) _).0 a.0 in
      let c = (and-eq-true_iff (ltb 1 (series_row rows)) _).0 b.0 in
      (ltb-true _ _ c.0, ltb-true _ _ c.1, ltb-true _ _ b.1, ltb-true _ _ a.1)

  single-by : (q : ℕ) → single_at rows q (get_or rows q 0) ≡ true → Single rows q
  unfolding single_at
  single-by q h =
      let w = get_or rows q 0 in
      let a = (and-eq-true_iff (asks_v w && not (eqb (role_of w) root_role) && not (eqb (role_of w) series_role) && eqb (values_of w) (1 + one_if (asks_scheme w))) _).0 h in
      let b = (and-eq-true_iff (asks_v w && not (eqb (role_of w) root_role) && not (eqb (role_of w) series_role)) _).0 a.0 in
      let c = (and-eq-true_iff (asks_v w && not (eqb (role_of w) root_role)) _).0 b.0 in
      let e = (and-eq-true_iff (asks_v w) _).0 c.0 in
      record {
        asks = e.0;
        no-root = not-true _ e.1;
        no-series = not-true _ c.1;
        values = eqb-true _ _ b.1;
        header = λ l. ltb-true _ _ (rw (lt-ltb _ _ l) at a.1);
        later = λ l. leb-true _ _ (rw (le-ltb q (series_row rows) (omega (arith, l))) at a.1);
      }

  pub single : (q : ℕ) → 2 ≤ q → (q ≡ series_row rows → ⊥) → (q ≡ period_row rows → ⊥) → q < interval_row rows → Single rows q
  unfolding row_stands is_single
  single q two s r l =
      let o = in-order in
      single-by q
      (rw (le-leb 2 q two, ne_eqb q (series_row rows) s, ne_eqb q (period_row rows) r, lt-ltb q (interval_row rows) l)
      at (row_of (row_stands rows) rows p.each q (omega (arith, l, o.3))))

  -- a row that has pairs is the root, or one of single values
  pub row-place : (q j : ℕ) → q < length rows → j < values_of (get_or rows q 0)
      → ((q ≡ 1) × (first_pair rows 1 ≡ 0)) ⊎ ((2 ≤ q) × (q ≡ series_row rows → ⊥) × (q ≡ period_row rows → ⊥) × (q < interval_row rows))
  unfolding row_stands is_single
  row-place q j l h =
      let stands = row_of (row_stands rows) rows p.each q l in
      ⊎_elim
      (λ (y : is_single rows q ≡ true). inr (apart q y))
      (λ (y : is_single rows q ≡ false).
      ⊎_elim
      (λ (z : (q ≡ 1) × (eqb q 1 ≡ true)). inl (z.0, rw z.0 at (eqb-true (first_pair rows q) 0 (rw (y, z.1) at stands))))
      (λ (z : (q ≡ 1 → ⊥) × (eqb q 1 ≡ false)). let e = eqb-true (values_of (get_or rows q 0)) 0 (rw (y, z.1) at stands) in absurd (omega (arith, e, h)))
      (eqb-cases q 1))
      (bool_cases (is_single rows q))
    where
      apart : (q : ℕ) → is_single rows q ≡ true → (2 ≤ q) × (q ≡ series_row rows → ⊥) × (q ≡ period_row rows → ⊥) × (q < interval_row rows)
      apart q y =
          let a = (and-eq-true_iff (leb 2 q && not (eqb q (series_row rows)) && not (eqb q (period_row rows))) _).0 y in
          let b = (and-eq-true_iff (leb 2 q && not (eqb q (series_row rows))) _).0 a.0 in
          let c = (and-eq-true_iff (leb 2 q) _).0 b.0 in (
            leb-true 2 q c.0,
            (λ e. never (sym (not-true _ c.1) ∙ eq-eqb q (series_row rows) e)),
            (λ e. never (sym (not-true _ b.1) ∙ eq-eqb q (period_row rows) e)),
            ltb-true q (interval_row rows) a.1,
          )
