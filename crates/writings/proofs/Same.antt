-- Two drafts that give the same have the same content, and so the same document. Assumes nothing.
use Prim.Native.Nat.{ℕ, zero, suc, ◌+◌, ◌*◌, ◌≤◌, ◌<◌}
use mathlib.Core.Path.{◌≡◌, refl, sym, ap, ◌∙◌}
use mathlib.Core.List.{List, [], ◌∷◌}
use mathlib.Core.Bool.{Bool, true, false, cond}
use mathlib.Core.Logic.{⊎_elim}
use native.Mathlib.Omega.{arith}
use native.Mathlib.Nat.{add-zero}
use lib.Dec.{eqb}
use lib.IntN.{pos}
use lib.ListN.{length, get_or, drop}
use borrow.Author.Tests.{ne_eqb}
use Rattle.lists.proofs.Cases.{bool_cases}
use Rattle.guideline.specs.Rows.{rows_of}
use Rattle.states.specs.Attributes.{asks_v, asks_scheme}
use Rattle.series.specs.Row.{field_at}
use Rattle.series.specs.declared.Field.TheVariants.{FirstRow, Count}
use Rattle.views.specs.Layout.{header_pairs, series_pairs, values_of, first_pair}
use Rattle.trees.specs.Trees.{Trees, none, element}
use Rattle.contents.specs.Said.{TagSaid}
use Rattle.layouts.specs.Layout.{layout_of}
use Rattle.sights.proofs.Slots.{in-header, in-series}
use Rattle.drafts.specs.Draft.{Draft, pair_value, single_tag, is_said, root_tag, bare_tag, singles, intervals_from, pair_for, singles_in, period_tree, series_from, draft_content, draft_document}
use Rattle.drafts.proofs.Writing.{row-there}
use Rattle.drafts.proofs.Elements.{Roles, roles}
use Rattle.writings.specs.Back.{drops_at, EachValue}
use Rattle.writings.specs.Same.{SameGiven}
use Rattle.writings.proofs.Places.{first_next, series_row, period_row, interval_row, Places, places, in-order, row-place, Single}
use Rattle.writings.proofs.Parts.{before}
use Rattle.writings.proofs.Texts.{root-values}
use Rattle.writings.proofs.Last.{header-ones, series-ones, period-ones}

module _ (d g : Draft) where
  -- ---- single values, z pairs after their first

  module _ (rows : List ℕ) (s e : ℕ) (stop : asks_v (get_or rows e 0) ≡ false) (low : e < length rows) (ones : (r : ℕ) → s ≤ r → r < e → Single rows r)
      (z : ℕ) (alike : (r : ℕ) → s ≤ r → r < e → (j : ℕ) → j < values_of (get_or rows r 0) → pair_value d (first_pair rows r + z + j) ≡ pair_value g (first_pair rows r + z + j))
      (behind back : Trees TagSaid) (same : behind ≡ back) where
    same_tag : (r : ℕ) → s ≤ r → r < e → single_tag d (get_or rows r 0) (first_pair rows r + z) ≡ single_tag g (get_or rows r 0) (first_pair rows r + z)
    unfolding single_tag
    same_tag r l h =
        let k = first_pair rows r + z in
        let n = (ones r l h).values in
        let v : pair_value d k ≡ pair_value g k = rw (add-zero k) at (alike r l h 0 (omega (arith, n))) in
        ⊎_elim
        (λ (y : asks_scheme (get_or rows r 0) ≡ true). let m : values_of (get_or rows r 0) ≡ 2 = rw y at n in rw (y, v, alike r l h 1 (omega (arith, m))) refl)
        (λ (y : asks_scheme (get_or rows r 0) ≡ false). rw (y, v) refl)
        (bool_cases (asks_scheme (get_or rows r 0)))

    same-singles : (ws : List ℕ) (r k : ℕ) → ws ≡ drop r rows → s ≤ r → r ≤ e → k ≡ first_pair rows r + z → singles d r k ws behind ≡ singles g r k ws back
    unfolding singles
    same-singles [] r k t l u p = same
    same-singles (w ∷ ws) r k t l u p =
        by (asks_v w) refl (λ (y : asks_v w ≡ true). same-singles ws (suc r) (k + values_of w) there.1 (omega (arith, l)) (early y) (next (early y)))
      where
        there : (get_or rows r 0 ≡ w) × (ws ≡ drop (suc r) rows)
        there = row-there rows r w ws t

        early : asks_v w ≡ true → r < e
        early y = before d rows s e stop low ones r w there.0 y u

        next : r < e → k + values_of w ≡ first_pair rows (suc r) + z
        next h =
            let f = first_next rows r (omega (arith, h, low)) (ones r l h).no-series in
            let m = ap values_of there.0 in
            omega (arith, f, m, p)

        tags : r < e → single_tag d w k ≡ single_tag g w k
        tags h = rw (there.0, ← p) at (same_tag r l h)

        by : (a : Bool) → asks_v w ≡ a → (asks_v w ≡ true → singles d (suc r) (k + values_of w) ws behind ≡ singles g (suc r) (k + values_of w) ws back)
            → cond (asks_v w) (cond (is_said (single_tag d w k)) (element r (single_tag d w k) none (singles d (suc r) (k + values_of w) ws behind)) (singles d (suc r) (k + values_of w) ws behind)) behind
            ≡ cond (asks_v w) (cond (is_said (single_tag g w k)) (element r (single_tag g w k) none (singles g (suc r) (k + values_of w) ws back)) (singles g (suc r) (k + values_of w) ws back)) back
        by false y ih = rw y same
        by true y ih = rw (y, tags (early y), ih y) refl

  -- ---- Intervals

  same-intervals : (q n j k : ℕ) → ((x : ℕ) → x < n → get_or d.positions (j + x) 0 ≡ get_or g.positions (k + x) 0)
      → ((x : ℕ) → x < n → get_or d.amounts (j + x) (pos 0) ≡ get_or g.amounts (k + x) (pos 0)) → intervals_from d q j n ≡ intervals_from g q k n
  unfolding intervals_from
  same-intervals q zero j k a b = refl
  same-intervals q (suc n) j k a b =
      let u : get_or d.positions j 0 ≡ get_or g.positions k 0 = rw (add-zero j, add-zero k) at (a 0 (omega arith)) in
      let v : get_or d.amounts j (pos 0) ≡ get_or g.amounts k (pos 0) = rw (add-zero j, add-zero k) at (b 0 (omega arith)) in
      let f = shifted (λ (x : ℕ). get_or d.positions x 0) (λ (x : ℕ). get_or g.positions x 0) a in
      let h = shifted (λ (x : ℕ). get_or d.amounts x (pos 0)) (λ (x : ℕ). get_or g.amounts x (pos 0)) b in
      rw (u, v, same-intervals q n (suc j) (suc k) f h) refl
    where
      shifted : {A : Type 0} (f h : ℕ → A) → ((x : ℕ) → x < suc n → f (j + x) ≡ h (k + x)) → (x : ℕ) → x < n → f (suc j + x) ≡ h (suc k + x)
      shifted f h c x l =
          let p : suc j + x ≡ j + suc x = omega arith in
          let q : suc k + x ≡ k + suc x = omega arith in
          ap f p ∙ c (suc x) (omega (arith, l)) ∙ ap h (sym q)

  -- ---- the parts of the content

  module _ (kind : cond (eqb d.kind 1) true (eqb d.kind 2) ≡ true) (w : SameGiven d g) where
    abbrev rows : List ℕ
    rows = rows_of d.kind

    abbrev p : Places rows
    p = places d.kind kind

    abbrev t : Roles rows
    t = roles d.kind kind

    abbrev s : ℕ
    s = series_row rows

    abbrev r : ℕ
    r = period_row rows

    abbrev v : ℕ
    v = interval_row rows

    same_rows : (i : ℕ) → i < d.count
        → intervals_from d v (field_at d.series i FirstRow) (field_at d.series i Count) ≡ intervals_from g v (field_at g.series i FirstRow) (field_at g.series i Count)
    same_rows i c =
        let o = w.rows i c in
        same-intervals v (field_at d.series i Count) (field_at d.series i FirstRow) (field_at g.series i FirstRow) o.positions o.amounts
        ∙ ap (intervals_from g v (field_at g.series i FirstRow)) o.count

    same-period : (i : ℕ) → i < d.count → period_tree d rows i ≡ period_tree g rows i
    unfolding period_tree singles_in pair_for
    same-period i c =
        let o = in-order rows p in
        let a = o.1 in
        let b = o.2 in
        let f = o.3 in
        ap (λ (x : Trees TagSaid). element r bare_tag x none)
        (same-singles rows (suc r) v p.interval (omega (arith, f)) (period-ones d rows p t) (series_pairs * i)
        (λ q l h j k. w.values.each q (omega (arith, h, f)) ((period-ones d rows p t q l h).later (omega (arith, l, a))) i c j k)
        _ _ (same_rows i c) (drop (suc r) rows) (suc r) (pair_for rows (suc r) i) refl (omega arith) b refl)

    same-series : (i n : ℕ) → i + n ≤ d.count → series_from d rows i n ≡ series_from g rows i n
    unfolding series_from singles_in pair_for
    same-series i zero h = refl
    same-series i (suc n) h =
        let o = in-order rows p in
        let a = o.1 in
        let b = o.2 in
        let f = o.3 in
        let c : i < d.count = omega (arith, h) in
        let inner =
        same-singles rows (suc s) r p.period (omega (arith, b, f)) (series-ones d rows p t) (series_pairs * i)
        (λ q l u j k. w.values.each q (omega (arith, u, b, f)) ((series-ones d rows p t q l u).later l) i c j k)
        (period_tree d rows i) (period_tree g rows i) (same-period i c) (drop (suc s) rows) (suc s) (pair_for rows (suc s) i) refl (omega arith) a refl in
        ap (λ (x : Trees TagSaid). element s bare_tag x (series_from d rows (suc i) n)) inner
        ∙ ap (element s bare_tag (singles_in g rows s i (period_tree g rows i))) (same-series (suc i) n (omega (arith, h)))

    root-first : first_pair rows 1 ≡ 0
    root-first =
        let o = in-order rows p in
        let n = root-values d rows t.root in
        let a = o.3 in
        ⊎_elim (λ (y : (◌≡◌ {A = ℕ} 1 1) × (first_pair rows 1 ≡ 0)). y.1) (λ y. absurd (let b = y.0 in omega (arith, b)))
        (row-place rows p 1 0 (omega (arith, a)) (omega (arith, n)))

    root-same : (j : ℕ) → j < 3 → pair_value d j ≡ pair_value g j
    root-same j h =
        let o = in-order rows p in
        let n = root-values d rows t.root in
        let a = o.3 in
        let f = root-first in
        let k : first_pair rows 1 + j ≡ j = omega (arith, f) in
        rw k at (w.values.header 1 (omega (arith, a)) (omega (arith, f)) j (omega (arith, n, h)))

    same-root : root_tag d ≡ root_tag g
    unfolding root_tag
    same-root = rw (root-same 0 (omega arith), root-same 1 (omega arith), root-same 2 (omega arith)) refl

    same-header : singles_in d rows 1 0 (series_from d rows 0 d.count) ≡ singles_in g rows 1 0 (series_from g rows 0 d.count)
    unfolding singles_in pair_for
    same-header =
        let o = in-order rows p in
        let a = o.0 in
        let b = o.1 in
        let c = o.2 in
        let f = o.3 in
        same-singles rows 2 s p.series (omega (arith, b, c, f)) (header-ones d rows p t) (series_pairs * 0)
        (λ q l u j k.
        let e : first_pair rows q + series_pairs * 0 + j ≡ first_pair rows q + j = omega arith in
        rw e (w.values.header q (omega (arith, u, b, c, f)) ((header-ones d rows p t q l u).header u) j k))
        (series_from d rows 0 d.count) (series_from g rows 0 d.count) (same-series 0 d.count (omega arith)) (drop 2 rows) 2 (pair_for rows 2 0) refl (omega arith) a refl

    pub same-content : draft_content d ≡ draft_content g
    unfolding draft_content
    same-content =
        ap (λ (x : TagSaid). element 1 x (singles_in d rows 1 0 (series_from d rows 0 d.count)) none) same-root
        ∙ ap (λ (x : Trees TagSaid). element 1 (root_tag g) x none) same-header
        ∙ ap (λ (n : ℕ). element 1 (root_tag g) (singles_in g rows 1 0 (series_from g rows 0 n)) none) w.count
        ∙ ap (λ (k : ℕ). element 1 (root_tag g) (singles_in g (rows_of k) 1 0 (series_from g (rows_of k) 0 g.count)) none) w.kind

    -- so that the same bytes are written
    pub same-document : draft_document d ≡ draft_document g
    unfolding draft_document
    same-document = ap (layout_of rows) same-content ∙ ap (λ (k : ℕ). layout_of (rows_of k) (draft_content g)) w.kind

-- what holds of every pair holds of each value
pub each-value : (kind count : ℕ) (P : ℕ → Bool → Type 0) → ((k : ℕ) (drops : Bool) → k < header_pairs + series_pairs * count → P k drops) → EachValue (rows_of kind) count P
unfolding pair_for
each-value kind count P h =
    record {
      header = λ q low f j l.
          let b = in-header kind q low (ne_eqb (values_of (get_or (rows_of kind) q 0)) 0 (λ e. omega (arith, e, l))) f in
          h (first_pair (rows_of kind) q + j) (drops_at (get_or (rows_of kind) q 0) j) (omega (arith, b, l));
      each = λ q low f i c j l.
          let b = in-series kind q low (ne_eqb (values_of (get_or (rows_of kind) q 0)) 0 (λ e. omega (arith, e, l))) f in
          h (pair_for (rows_of kind) q i + j) (drops_at (get_or (rows_of kind) q 0) j) (omega (arith, b, l, c));
    }
