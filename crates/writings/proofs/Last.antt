-- The content of a draft has one tag in each row of single values, of the header and of each series, where one is said. Assumes nothing.
use Prim.Native.Nat.{ℕ, zero, suc, ◌+◌, ◌*◌, ◌≤◌, ◌<◌}
use mathlib.Core.Path.{◌≡◌, refl, ap, ◌∙◌}
use mathlib.Core.List.{List, [], ◌∷◌}
use mathlib.Core.Bool.{true, false, cond}
use mathlib.Core.Logic.{⊎_elim}
use native.Mathlib.Omega.{arith}
use lib.Dec.{eqb, ltb}
use lib.ListN.{get_or, drop}
use borrow.Author.Tests.{eq-eqb, ne_eqb, lt-ltb, le-ltb}
use Rattle.lists.proofs.Cases.{eqb-cases, ltb-cases}
use Rattle.guideline.specs.Rows.{rows_of}
use Rattle.series.specs.Row.{field_at}
use Rattle.series.specs.declared.Field.TheVariants.{FirstRow, Count}
use Rattle.views.specs.Layout.{header_pairs, series_pairs, first_pair}
use Rattle.views.specs.Shown.{series_at}
use Rattle.trees.specs.Trees.{Trees, none}
use Rattle.contents.specs.Said.{TagSaid}
use Rattle.sights.specs.Values.{parts_of, last_of}
use Rattle.drafts.specs.Draft.{Draft, single_tag, is_said, bare_tag, root_tag, intervals_from, pair_for, singles_in, period_tree, series_from, draft_content}
use Rattle.drafts.proofs.Elements.{Roles}
use Rattle.writings.proofs.Places.{more, series_row, period_row, interval_row, Places, in-order, Single, single}
use Rattle.writings.proofs.Parts.{RowsHave, NoSeries, counts-plain, Elsewhere, last_in, counts, taken, last-element, last-lacks, last-other, singles-have, singles-miss, singles-hit}

module _ (d : Draft) (rows : List ℕ) (p : Places rows) (t : Roles rows) where
  abbrev s : ℕ
  s = series_row rows

  abbrev r : ℕ
  r = period_row rows

  abbrev v : ℕ
  v = interval_row rows

  -- ---- the rows of each part

  pub header-ones : (q : ℕ) → 2 ≤ q → q < s → Single rows q
  header-ones q l h = let o = in-order rows p in single rows p q l (λ e. omega (arith, h, e)) (λ e. omega (arith, h, e, o.1)) (omega (arith, h, o.1, o.2))

  pub series-ones : (q : ℕ) → suc s ≤ q → q < r → Single rows q
  series-ones q l h = let o = in-order rows p in single rows p q (omega (arith, l, o.0)) (λ e. omega (arith, l, e)) (λ e. omega (arith, h, e)) (omega (arith, h, o.2))

  pub period-ones : (q : ℕ) → suc r ≤ q → q < v → Single rows q
  period-ones q l h = let o = in-order rows p in single rows p q (omega (arith, l, o.0, o.1)) (λ e. omega (arith, l, e, o.1)) (λ e. omega (arith, l, e)) h

  plain_row : (q : ℕ) → s < q → q ≤ suc (suc v) → NoSeries rows q
  plain_row q l h =
      ⊎_elim
      (λ (y : (q < v) × (ltb q v ≡ true)).
      ⊎_elim
      (λ (z : (q ≡ r) × (eqb q r ≡ true)). rw (z.0, t.period) refl)
      (λ (z : (q ≡ r → ⊥) × (eqb q r ≡ false)). let o = in-order rows p in (single rows p q (omega (arith, l, o.0)) (λ e. omega (arith, l, e)) z.0 y.0).no-series)
      (eqb-cases q r))
      (λ (y : (v ≤ q) × (ltb q v ≡ false)).
      ⊎_elim
      (λ (z : (q ≡ v) × (eqb q v ≡ true)). rw (z.0, t.interval) refl)
      (λ (z : (q ≡ v → ⊥) × (eqb q v ≡ false)).
      let m = more v q y.0 z.0 in
      ⊎_elim
      (λ (u : (q ≡ suc v) × (eqb q (suc v) ≡ true)). rw (u.0, t.position) refl)
      (λ (u : (q ≡ suc v → ⊥) × (eqb q (suc v) ≡ false)).
      let n = more (suc v) q (omega (arith, m)) u.0 in
      let e : q ≡ suc (suc v) = omega (arith, n, h) in
      rw (e, t.amount) refl)
      (eqb-cases q (suc v)))
      (eqb-cases q v))
      (ltb-cases q v)

  module _ (Q : ℕ → Type 0) where
    intervals-have : Q v → Q (suc v) → Q (suc (suc v)) → (j n : ℕ) → RowsHave Q (intervals_from d v j n)
    unfolding intervals_from RowsHave
    intervals-have a b c j zero = tt
    intervals-have a b c j (suc n) = (a, (b, tt, (c, tt, tt)), intervals-have a b c (suc j) n)

    period-have : ((q : ℕ) → r ≤ q → q ≤ suc (suc v) → Q q) → (i : ℕ) → RowsHave Q (period_tree d rows i)
    unfolding period_tree singles_in RowsHave
    period-have h i =
        let o = in-order rows p in
        let a = o.2 in (
          h r (omega arith) (omega (arith, a)),
          singles-have d rows (suc r) v p.interval (let b = o.3 in omega (arith, b)) period-ones Q (λ q l u. h q (omega (arith, l)) (omega (arith, u))) _
              (intervals-have (h v (omega (arith, a)) (omega arith)) (h (suc v) (omega (arith, a)) (omega arith)) (h (suc (suc v)) (omega (arith, a)) (omega arith)) _ _)
              (drop (suc r) rows) (suc r) _ refl (omega arith) (omega (arith, a)),
          tt,
        )

    inner-have : ((q : ℕ) → s < q → q ≤ suc (suc v) → Q q) → (i : ℕ) → RowsHave Q (singles_in d rows s i (period_tree d rows i))
    unfolding singles_in
    inner-have h i =
        let o = in-order rows p in
        let a = o.1 in
        let b = o.2 in
        let c = o.3 in
        singles-have d rows (suc s) r p.period (omega (arith, b, c)) series-ones Q (λ q l u. h q (omega (arith, l)) (omega (arith, u, b))) _
        (period-have (λ q l u. h q (omega (arith, l, a)) u) i)
        (drop (suc s) rows) (suc s) _ refl (omega arith) (omega (arith, a))

    series-have : ((q : ℕ) → s ≤ q → q ≤ suc (suc v) → Q q) → (i n : ℕ) → RowsHave Q (series_from d rows i n)
    unfolding series_from RowsHave
    series-have h i zero = tt
    series-have h i (suc n) =
        let o = in-order rows p in
        let a = o.1 in
        let b = o.2 in (h s (omega arith) (omega (arith, a, b)), inner-have (λ q l u. h q (omega (arith, l)) u) i, series-have h (suc i) n)

  abbrev inner_of : ℕ → Trees TagSaid
  inner_of i = singles_in d rows s i (period_tree d rows i)

  pub inner-plain : (i : ℕ) → RowsHave (NoSeries rows) (inner_of i)
  inner-plain i = inner-have (NoSeries rows) plain_row i

  -- ---- a row of series i

  abbrev pub tag_for : ℕ → ℕ → TagSaid
  tag_for q i = single_tag d (get_or rows q 0) (pair_for rows q i)

  -- its tag where it is said, or x
  abbrev pub tag_or : ℕ → ℕ → List TagSaid → List TagSaid
  tag_or q i x = cond (is_said (tag_for q i)) (tag_for q i ∷ []) x

  abbrev in_period : ℕ → Trees TagSaid
  in_period i = singles_in d rows r i (intervals_from d v (field_at d.series i FirstRow) (field_at d.series i Count))

  module _ (q m : ℕ) where
    in-period : (i n : ℕ) (x : List TagSaid) → r < q → q < v → counts rows q m n ≡ true → last_in rows q m x (period_tree d rows i) n ≡ tag_or q i x
    unfolding period_tree singles_in pair_for series_at parts_of last_of
    in-period i n x l h c =
        let o = in-order rows p in
        let a = o.1 in
        let b = o.2 in
        let f = o.3 in
        last-element rows q m x r bare_tag (in_period i) none n
        ∙ rw (ne_eqb r q (λ e. omega (arith, e, l)), plain_row r a (omega (arith, b)))
        (singles-hit d rows (suc r) v p.interval (omega (arith, f)) period-ones q m (intervals_from d v (field_at d.series i FirstRow) (field_at d.series i Count)) (series_pairs * i) x n c h
        (drop (suc r) rows) (suc r) (pair_for rows (suc r) i) refl (omega arith) (omega (arith, l)) refl
        ∙ last-lacks rows q m (tag_or q i x) (intervals_from d v (field_at d.series i FirstRow) (field_at d.series i Count)) n
        (intervals-have (Elsewhere rows q m) (ne_eqb v q (λ e. omega (arith, e, h))) (ne_eqb (suc v) q (λ e. omega (arith, e, h))) (ne_eqb (suc (suc v)) q (λ e. omega (arith, e, h))) _ _))

    in_inner : (i n : ℕ) (x : List TagSaid) → s < q → (q ≡ r → ⊥) → q < v → counts rows q m n ≡ true → last_in rows q m x (inner_of i) n ≡ tag_or q i x
    unfolding singles_in pair_for
    in_inner i n x l u h c =
        let o = in-order rows p in
        let a = o.1 in
        let b = o.2 in
        let f = o.3 in
        ⊎_elim
        (λ (y : (q < r) × (ltb q r ≡ true)).
        singles-hit d rows (suc s) r p.period (omega (arith, b, f)) series-ones q m (period_tree d rows i) (series_pairs * i) x n c y.0
        (drop (suc s) rows) (suc s) (pair_for rows (suc s) i) refl (omega arith) (omega (arith, l)) refl
        ∙ last-lacks rows q m (tag_or q i x) (period_tree d rows i) n (period-have (Elsewhere rows q m) (λ j k _. ne_eqb j q (λ e. let g = y.0 in omega (arith, e, k, g))) i))
        (λ (y : (r ≤ q) × (ltb q r ≡ false)).
        singles-miss d rows (suc s) r p.period (omega (arith, b, f)) series-ones q m (period_tree d rows i) x n
        (drop (suc s) rows) (suc s) (pair_for rows (suc s) i) refl (omega arith) a (λ j k z. ne_eqb j q (λ e. let g = y.0 in omega (arith, e, z, g)))
        ∙ in-period i n x (more r q y.0 u) h c)
        (ltb-cases q r)

  -- ---- the series, each of which has its number

  module _ (q : ℕ) (l : s < q) (u : q ≡ r → ⊥) (h : q < v) (f : header_pairs ≤ first_pair rows q) where
    one_on : (m i n : ℕ) (x : List TagSaid)
        → last_in rows q m x (series_from d rows i (suc n)) i ≡ last_in rows q m (last_in rows q m x (inner_of i) (i + 1)) (series_from d rows (suc i) n) (suc i)
    unfolding series_from series_at
    one_on m i n x =
        let e : i + 1 ≡ suc i = omega arith in
        last-element rows q m x s bare_tag (inner_of i) (series_from d rows (suc i) n) i
        ∙ rw (t.series, ne_eqb s q (λ z. omega (arith, z, l)))
        (ap (last_in rows q m (last_in rows q m x (inner_of i) (i + 1)) (series_from d rows (suc i) n)) (counts-plain rows (inner_of i) (i + 1) (inner-plain i) ∙ e))

    another : (m i : ℕ) → (i + 1 ≡ m → ⊥) → counts rows q m (i + 1) ≡ false
    another m i e = rw (le-ltb _ _ f, ne_eqb (i + 1) m e) refl

    past-it : (j i n : ℕ) (x : List TagSaid) → j < i → last_in rows q (j + 1) x (series_from d rows i n) i ≡ x
    unfolding series_from parts_of last_of
    past-it j i zero x k = refl
    past-it j i (suc n) x k =
        one_on (j + 1) i n x
        ∙ ap (λ (y : List TagSaid). last_in rows q (j + 1) y (series_from d rows (suc i) n) (suc i))
        (last-other rows q (j + 1) x (inner_of i) (i + 1) (inner-plain i) (another (j + 1) i (λ e. omega (arith, e, k))))
        ∙ past-it j (suc i) n x (omega (arith, k))

    in-series : (j i n : ℕ) (x : List TagSaid) → i ≤ j → j < i + n → last_in rows q (j + 1) x (series_from d rows i n) i ≡ tag_or q j x
    in-series j i zero x k z = absurd (omega (arith, k, z))
    in-series j i (suc n) x k z =
        one_on (j + 1) i n x
        ∙ ⊎_elim
        (λ (y : (j ≡ i) × (eqb j i ≡ true)).
        let g = y.0 in
        rw g
        (ap (λ (w : List TagSaid). last_in rows q (i + 1) w (series_from d rows (suc i) n) (suc i))
        (in_inner q (i + 1) i (i + 1) x l u h (rw (le-ltb _ _ f, eq-eqb (i + 1) (i + 1) refl) refl))
        ∙ past-it i (suc i) n (tag_or q i x) (omega arith)))
        (λ (y : (j ≡ i → ⊥) × (eqb j i ≡ false)).
        let g = more i j k y.0 in
        ap (λ (w : List TagSaid). last_in rows q (j + 1) w (series_from d rows (suc i) n) (suc i))
        (last-other rows q (j + 1) x (inner_of i) (i + 1) (inner-plain i) (another (j + 1) i (λ e. omega (arith, e, g))))
        ∙ in-series j (suc i) n x g (omega (arith, z)))
        (eqb-cases j i)

-- ---- the whole content

module _ (d : Draft) (p : Places (rows_of d.kind)) (t : Roles (rows_of d.kind)) where
  abbrev rows : List ℕ
  rows = rows_of d.kind

  abbrev all : Trees TagSaid
  all = series_from d rows 0 d.count

  from-root : (q m : ℕ) → last_in rows q m [] (draft_content d) 0 ≡ last_in rows q m (taken rows q m 1 0 (root_tag d) []) (singles_in d rows 1 0 all) 0
  unfolding draft_content series_at parts_of last_of
  from-root q m = last-element rows q m [] 1 (root_tag d) (singles_in d rows 1 0 all) none 0 ∙ rw t.root refl

  pub last-root : first_pair rows 1 < header_pairs → last_in rows 1 0 [] (draft_content d) 0 ≡ root_tag d ∷ []
  unfolding singles_in
  last-root f =
      let o = in-order rows p in
      let a = o.0 in
      let b = o.1 in
      let c = o.2 in
      let e = o.3 in
      from-root 1 0
      ∙ rw (lt-ltb _ _ f)
      (last-lacks rows 1 0 (root_tag d ∷ []) (singles_in d rows 1 0 all) 0
      (singles-have d rows 2 (series_row rows) p.series (omega (arith, b, c, e)) (header-ones d rows p t) (Elsewhere rows 1 0) (λ q l u. ne_eqb q 1 (λ z. omega (arith, z, l))) all
      (series-have d rows p t (Elsewhere rows 1 0) (λ q l u. ne_eqb q 1 (λ z. omega (arith, z, l, a))) 0 d.count) (drop 2 rows) 2 _ refl (omega arith) a))

  pub last-header : (q : ℕ) → 2 ≤ q → q < series_row rows → last_in rows q 0 [] (draft_content d) 0 ≡ tag_or d rows p t q 0 []
  unfolding singles_in pair_for
  last-header q l h =
      let o = in-order rows p in
      let b = o.1 in
      let c = o.2 in
      let e = o.3 in
      from-root q 0
      ∙ rw (ne_eqb 1 q (λ z. omega (arith, z, l)))
      (singles-hit d rows 2 (series_row rows) p.series (omega (arith, b, c, e)) (header-ones d rows p t) q 0 all (series_pairs * 0) [] 0 (rw (lt-ltb _ _ ((header-ones d rows p t q l h).header h)) refl) h
      (drop 2 rows) 2 (pair_for rows 2 0) refl (omega arith) l refl
      ∙ last-lacks rows q 0 (tag_or d rows p t q 0 []) all 0 (series-have d rows p t (Elsewhere rows q 0) (λ j k _. ne_eqb j q (λ z. omega (arith, z, k, h))) 0 d.count))

  pub last-series : (q i : ℕ) → series_row rows < q → (q ≡ period_row rows → ⊥) → q < interval_row rows → i < d.count
      → last_in rows q (i + 1) [] (draft_content d) 0 ≡ tag_or d rows p t q i []
  unfolding singles_in
  last-series q i l u h k =
      let o = in-order rows p in
      let a = o.0 in
      let b = o.1 in
      let c = o.2 in
      let e = o.3 in
      let f = (single rows p q (omega (arith, l, a)) (λ z. omega (arith, z, l)) u h).later l in
      from-root q (i + 1)
      ∙ rw (ne_eqb 1 q (λ z. omega (arith, z, l, a)))
      (singles-miss d rows 2 (series_row rows) p.series (omega (arith, b, c, e)) (header-ones d rows p t) q (i + 1) all [] 0 (drop 2 rows) 2 (pair_for rows 2 0) refl (omega arith) a
      (λ j x y. ne_eqb j q (λ z. omega (arith, z, y, l)))
      ∙ in-series d rows p t q l u h f i 0 d.count [] (omega arith) (omega (arith, k)))
