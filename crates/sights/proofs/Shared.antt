-- The pairs that the series table has too are the same. Assumes nothing.
use Prim.Native.Nat.{ℕ, zero, suc, ◌+◌, ◌*◌, ◌-◌, ◌≤◌, ◌<◌}
use mathlib.Core.Path.{◌≡◌, refl, sym, ap, ◌∙◌}
use mathlib.Core.List.{List, [], ◌∷◌, ◌++◌}
use mathlib.Core.Bool.{Bool, true, false, cond, not}
use mathlib.Core.Logic.{◌⊎◌, inl, inr, ⊎_elim}
use native.Mathlib.Omega.{arith}
use lib.Dec.{eqb, leb, ltb}
use lib.ListN.{length, drop, get_or, set}
use lib.Seq.{get_or-set_other}
use borrow.Author.Tests.{eqb-true, leb-true, ltb-true, eq-eqb, le-ltb}
use Rattle.lists.proofs.Cases.{by_cond, bool_cases, both_true, never, ltb-cases, eqb-cases}
use Rattle.slices.specs.Same.{same}
use Rattle.slices.specs.declared.Span.{Span}
use Rattle.trims.specs.Trim.{lead_of, trimmed_of}
use Rattle.elements.specs.Names.{names, number_in, element_no}
use Rattle.columns.specs.Columns.{collapsed, role_of, form_of, scheme_of, root_role}
use Rattle.guideline.specs.Kinds.{is_kind}
use Rattle.guideline.specs.Rows.{beschaffungsanforderung, kostenblatt, network_constraint_document, rows_of}
use Rattle.guideline.proofs.Each.{each_kind, of-kind, each_row, row_of, row_with}
use Rattle.items.specs.Parts.{span_of}
use Rattle.items.specs.declared.Item.{Item}
use Rattle.items.specs.declared.Item.TheVariants.{Start, Empty, End, Text, Comment, Unreadable}
use Rattle.series.specs.Row.{is_view, drops_spaces, cells_of, cell_at, with_view}
use Rattle.series.specs.Row.{cell_of as column_of}
use Rattle.series.specs.declared.Field.{Field}
use Rattle.series.specs.declared.Field.TheVariants.{Identification, Object, BusinessType, Direction, Area, FirstRow, Count}
use Rattle.series.proofs.Rows.{view-set, view-low, views-apart}
use Rattle.states.specs.Attributes.{there, asks_v, asks_scheme}
use Rattle.states.specs.Moves.{entry_of}
use Rattle.states.specs.declared.State.{State}
use Rattle.reader.specs.Items.{Placed}
use Rattle.reader.specs.Rows.{brought_by, quoted, field_after, series_with, series_after}
use Rattle.reader.specs.Reading.{Tables, tab, tables_after}
use Rattle.trees.specs.Trees.{Trees, none, element}
use Rattle.contents.specs.Said.{TagSaid}
use Rattle.contents.specs.Legal.{position_of}
use Rattle.contents.specs.Shown.{role_shown}
use Rattle.promises.proofs.Cells.{step-sized}
use Rattle.contents.proofs.Roles.{by-entry}
use Rattle.contents.proofs.Walk.{Tally, opened, walked}
use Rattle.contents.proofs.Fill.{said_of, saying, state_of, tables_with, filled, is_tag}
use Rattle.contents.proofs.Values.{HasValues}
use Rattle.views.specs.Layout.{header_pairs, series_pairs, values_of, pair_after, pairs_after, first_pair, pair_in, cell_of}
use Rattle.views.specs.Shown.{value_start, value_length, series_at}
use Rattle.sights.specs.Values.{Part, part, counts_of, parts_of}
use Rattle.sights.proofs.Pairs.{Kept, cells-kept, v-cells, tag-long}
use Rattle.sights.proofs.Slots.{in-header, in-series, before-next, more}
use Rattle.sights.proofs.Parts.{shows_as, shown_for, parts_show, Good, AllGood, counts_up}

-- ---- the row and the pair of a view of the series table

abbrev alike : Bool → Bool → Bool
alike a b = cond a b (not b)

alike_same : (a b : Bool) → alike a b ≡ true → a ≡ b
alike_same true true e = refl
alike_same true false e = never e
alike_same false true e = never e
alike_same false false e = refl

-- the row of the view's role is the only one; it has a `v`, of which spaces are dropped where the view drops them; its pair is one of a series
fits : Field → ℕ → Bool
fits f kind =
    let rows = rows_of kind in
    let r = row_with (role_shown f) rows in
    let k = first_pair rows r in
    cond (leb r (length rows))
    (cond (leb header_pairs k)
    (cond (ltb k (header_pairs + series_pairs))
    (each_row
    (λ q w.
    cond (eqb (role_of w) (role_shown f))
    (cond (eqb q r) (cond (asks_v w) (cond (alike (collapsed w) (drops_spaces f)) (cond (eqb (role_of w) root_role) false (not (eqb (values_of w) 0))) false) false) false) true)
    0 rows)
    false)
    false)
    false

fits_all : (f : Field) → is_view f ≡ true → each_kind (fits f) ≡ true
unfolding fits rows_of beschaffungsanforderung kostenblatt network_constraint_document element_no number_in names same values_of pair_after pairs_after first_pair asks_v asks_scheme role_of form_of scheme_of collapsed
fits_all Identification e = refl
fits_all Object e = refl
fits_all BusinessType e = refl
fits_all Direction e = refl
fits_all Area e = refl
fits_all FirstRow e = never e
fits_all Count e = never e

some : (n : ℕ) → eqb n 0 ≡ false → 1 ≤ n
some zero e = never (sym e)
some (suc n) e = omega arith

with-role : (role : ℕ) (rows : List ℕ) → row_with role rows < length rows → role_of (get_or rows (row_with role rows) 0) ≡ role
with-role role [] h = absurd (omega (arith, h))
with-role role (w ∷ ws) h =
    ⊎_elim
    (λ (y : eqb (role_of w) role ≡ true). rw y (eqb-true _ _ y))
    (λ (y : eqb (role_of w) role ≡ false).
    let l : suc (row_with role ws) < suc (length ws) = rw y at h in rw y (with-role role ws (omega (arith, l))))
    (bool_cases (eqb (role_of w) role))

module _ (kind : ℕ) (known : is_kind kind ≡ true) where
  abbrev rows : List ℕ
  rows = rows_of kind

  abbrev many : ℕ → ℕ
  many q = values_of (get_or rows q 0)

  abbrev home : Field → ℕ
  home f = row_with (role_shown f) rows

  abbrev pub slot : Field → ℕ
  slot f = first_pair rows (home f)

  pub record Fit (f : Field) : Type 0 where
    pub low : home f ≤ length rows
    pub from : header_pairs ≤ slot f
    pub until : slot f < header_pairs + series_pairs
    pub alone : (q : ℕ) → q < length rows → role_of (get_or rows q 0) ≡ role_shown f
        → (q ≡ home f) × (asks_v (get_or rows q 0) ≡ true) × (collapsed (get_or rows q 0) ≡ drops_spaces f) × (eqb (role_of (get_or rows q 0)) root_role ≡ false) × (eqb (many q) 0 ≡ false)

  fit : (f : Field) → is_view f ≡ true → Fit f
  unfolding fits
  fit f v =
      let t = of-kind (fits f) (fits_all f v) kind known in
      let a = both_true (leb (home f) (length rows)) t in
      let b = both_true (leb header_pairs (slot f)) a.1 in
      let c = both_true (ltb (slot f) (header_pairs + series_pairs)) b.1 in
      record {
        low = leb-true _ _ a.0;
        from = leb-true _ _ b.0;
        until = ltb-true _ _ c.0;
        alone = λ q h e.
            let w = get_or rows q 0 in
            let x : cond (eqb q (home f)) (cond (asks_v w) (cond (alike (collapsed w) (drops_spaces f)) (cond (eqb (role_of w) root_role) false (not (eqb (values_of w) 0))) false) false) false ≡ true =
            rw (eq-eqb _ _ e) at (row_of _ rows c.1 q h) in
            let x₁ = both_true (eqb q (home f)) x in
            let x₂ = both_true (asks_v w) x₁.1 in
            let x₃ = both_true (alike (collapsed w) (drops_spaces f)) x₂.1 in
            let x₄ = no-root (eqb (role_of w) root_role) (eqb (values_of w) 0) x₃.1 in
            (eqb-true _ _ x₁.0, x₂.0, alike_same _ _ x₃.0, x₄.0, x₄.1);
      }
    where
      no-root : (a b : Bool) → cond a false (not b) ≡ true → (a ≡ false) × (b ≡ false)
      no-root true b e = never e
      no-root false true e = never e
      no-root false false e = (refl, refl)

  -- ---- a pair of a view, and those of another row or series

  far : (a v n b m : ℕ) → (a < header_pairs → a + v ≤ header_pairs) → (header_pairs ≤ a → (a + v ≤ header_pairs + series_pairs) × (1 ≤ n)) → header_pairs ≤ b
      → b < header_pairs + series_pairs → (n ≡ m + 1 → (a + v ≤ b) ⊎ (b < a))
      → (b + series_pairs * m < pair_in a n) ⊎ (pair_in a n + v ≤ b + series_pairs * m)
  unfolding pair_in
  far a v n b m h s f u o =
      ⊎_elim
      (λ (y : (a < header_pairs) × (ltb a header_pairs ≡ true)). let z = h y.0 in rw y.1 (inr (omega (arith, z, f))))
      (λ (y : (header_pairs ≤ a) × (ltb a header_pairs ≡ false)).
      let z = s y.0 in
      rw y.1
      (⊎_elim
      (λ (e : (n ≡ m + 1) × (eqb n (m + 1) ≡ true)).
      let d : n - 1 ≡ m = omega (arith, e.0) in
      rw d (⊎_elim (λ (x : a + v ≤ b). inr (omega (arith, x))) (λ (x : b < a). inl (omega (arith, x))) (o e.0)))
      (λ (e : (n ≡ m + 1 → ⊥) × (eqb n (m + 1) ≡ false)).
      ⊎_elim
      (λ x. inr (let z₀ = z.0 in let z₁ = z.1 in omega (arith, z₀, z₁, y.0, f, u, x.0)))
      (λ x. inl (let l = more kind (m + 1) n x.0 (λ d. e.0 (sym d)) in let z₀ = z.0 in let z₁ = z.1 in omega (arith, z₀, z₁, y.0, f, u, l)))
      (ltb-cases n (m + 1)))
      (eqb-cases n (m + 1))))
      (ltb-cases a header_pairs)

  -- ---- what the reader puts into the row of a series

  module _ (at : ℕ) (v : Span) (s : List ℕ) (st : State) (t : List ℕ) (i : ℕ) (f : Field) (is : is_view f ≡ true) where
    abbrev Stays : List ℕ → Type 0
    Stays u = (get_or u (cell_at i f) 0 ≡ get_or t (cell_at i f) 0) × (get_or u (cell_at i f + 1) 0 ≡ get_or t (cell_at i f + 1) 0)

    -- a count
    count-stays : (k g n : ℕ) → 10 ≤ g → g ≤ 11 → Stays (set t (cells_of k + g) n)
    count-stays k g n a b =
        let l = view-low f is in
        (get_or-set_other t (cells_of k + g) (cell_at i f) n 0 (λ e. omega (arith, e, a, b, l)), get_or-set_other t (cells_of k + g) (cell_at i f + 1) n 0 (λ e. omega (arith, e, a, b, l)))

    -- another view
    view-stays : (k : ℕ) (g : Field) (a n : ℕ) → is_view g ≡ true → ((g ≡ f) × (k ≡ i) → ⊥) → Stays (with_view t k g a n)
    view-stays k g a n ig d =
        let w = view-set t k g a n in
        let lf = view-low f is in
        let lg = view-low g ig in
        ⊎_elim
        (λ (e : g ≡ f).
        ⊎_elim
        (λ (y : (k ≡ i) × (eqb k i ≡ true)). absurd (d (e, y.0)))
        (λ (y : (k ≡ i → ⊥) × (eqb k i ≡ false)).
        let c : column_of g ≡ column_of f = ap column_of e in (
          w.others (cell_at i f) (λ z. y.0 (omega (arith, z, c))) (λ z. y.0 (omega (arith, z, c, lf, lg))),
          w.others (cell_at i f + 1) (λ z. y.0 (omega (arith, z, c, lf, lg))) (λ z. y.0 (omega (arith, z, c))),
        ))
        (eqb-cases k i))
        (λ (e : (column_of g + 1 < column_of f) ⊎ (column_of f + 1 < column_of g)). (
          w.others (cell_at i f) (λ z. ⊎_elim (λ x. omega (arith, z, x, lf, lg)) (λ x. omega (arith, z, x, lf, lg)) e) (λ z. ⊎_elim (λ x. omega (arith, z, x, lf, lg)) (λ x. omega (arith, z, x, lf, lg)) e),
          w.others (cell_at i f + 1) (λ z. ⊎_elim (λ x. omega (arith, z, x, lf, lg)) (λ x. omega (arith, z, x, lf, lg)) e) (λ z. ⊎_elim (λ x. omega (arith, z, x, lf, lg)) (λ x. omega (arith, z, x, lf, lg)) e),
        ))
        (views-apart g f ig is)

    after-stays : (g : Field) → is_view g ≡ true → ((g ≡ f) × (st.series - 1 ≡ i) → ⊥) → Stays (field_after at v s st g t)
    unfolding field_after
    after-stays g ig d =
        rw ig
        (by_cond Stays (drops_spaces g)
        (view-stays (st.series - 1) g (at + v.start + lead_of (quoted v s)) (length (trimmed_of (quoted v s))) ig d)
        (view-stays (st.series - 1) g (at + v.start) v.len ig d))

    reader-stays : (r n : ℕ) → ((r ≡ role_shown f) × (st.series - 1 ≡ i) → ⊥) → Stays (series_after at v s st (entry_of r n) t)
    unfolding series_after series_with brought_by field_after
    reader-stays r n d =
        by-entry (λ e. Stays (series_after at v s st e t)) r n (refl, refl)
        (λ e. first) (λ e. many-stay)
        (λ e. other Object refl (e))
        (λ e. other BusinessType refl (e))
        (λ e. other Identification refl (e))
        (λ e. (refl, refl)) (λ e. (refl, refl))
        (λ e. other Direction refl (e))
        (λ e. other Area refl (e))
      where
        other : (g : Field) → is_view g ≡ true → r ≡ role_shown g → Stays (field_after at v s st g t)
        other g ig e = after-stays g ig (λ z. d (e ∙ ap role_shown z.0, z.1))

        first : Stays (field_after at v s st FirstRow t)
        first = count-stays (st.series - 1) 10 st.first (omega arith) (omega arith)

        many-stay : Stays (field_after at v s st Count t)
        many-stay = count-stays (st.series - 1) 11 (st.intervals - st.first) (omega arith) (omega arith)

    -- the view itself
    unfoldable Set : List ℕ → Type 0
    Set u =
        (get_or u (cell_at i f) 0 ≡ cond (drops_spaces f) (at + v.start + lead_of (quoted v s)) (at + v.start))
        × (get_or u (cell_at i f + 1) 0 ≡ cond (drops_spaces f) (length (trimmed_of (quoted v s))) v.len)

    field-set : cell_at i f + 1 < length t → st.series - 1 ≡ i → Set (field_after at v s st f t)
    unfolding Set field_after
    field-set h e =
        rw (is, e)
        (⊎_elim
        (λ (y : drops_spaces f ≡ true). let w = view-set t i f (at + v.start + lead_of (quoted v s)) (length (trimmed_of (quoted v s))) in rw y (w.start (omega (arith, h)), w.len h))
        (λ (y : drops_spaces f ≡ false). let w = view-set t i f (at + v.start) v.len in rw y (w.start (omega (arith, h)), w.len h))
        (bool_cases (drops_spaces f)))

  module _ (at : ℕ) (v : Span) (s : List ℕ) (st : State) (t : List ℕ) (i : ℕ) where
    reader-sets : (f : Field) (is : is_view f ≡ true) (n : ℕ) → cell_at i f + 1 < length t → st.series - 1 ≡ i
        → Set at v s st t i f is (series_after at v s st (entry_of (role_shown f) n) t)
    unfolding series_after series_with brought_by entry_of
    reader-sets Identification is n h e = field-set at v s st t i Identification is h e
    reader-sets Object is n h e = field-set at v s st t i Object is h e
    reader-sets BusinessType is n h e = field-set at v s st t i BusinessType is h e
    reader-sets Direction is n h e = field-set at v s st t i Direction is h e
    reader-sets Area is n h e = field-set at v s st t i Area is h e
    reader-sets FirstRow is n h e = never is
    reader-sets Count is n h e = never is

  -- ---- both tables, for the first `most` series

  module _ (doc : List ℕ) (most : ℕ) where
    abbrev pair_at : ℕ → Field → ℕ
    pair_at i f = slot f + series_pairs * i

    unfoldable pub Alike : List ℕ → List ℕ → Type 0
    Alike t u =
        (i : ℕ) → i < most → (f : Field) → is_view f ≡ true
        → (get_or t (cell_at i f) 0 ≡ get_or u (cell_of (pair_at i f)) 0) × (get_or t (cell_at i f + 1) 0 ≡ get_or u (cell_of (pair_at i f) + 1) 0)

    module _ (k at w : ℕ) (s : List ℕ) (stands : s ≡ drop at doc) (u : List ℕ) where
      pub item-kept : (x : Item) (l : ℕ) → (eqb (values_of w) 0 ≡ false → (l < k) ⊎ (k + values_of w ≤ l)) → Kept doc u (shows_as k at w x s u) l
      unfolding shows_as
      item-kept (Start tag) l o = ⊎_elim (λ y. rw y (refl, refl)) (λ y. rw y (cells-kept doc at s stands u k w tag y l (o y))) (bool_cases (eqb (values_of w) 0))
      item-kept (Empty tag) l o = ⊎_elim (λ y. rw y (refl, refl)) (λ y. rw y (cells-kept doc at s stands u k w tag y l (o y))) (bool_cases (eqb (values_of w) 0))
      item-kept (End n e) l o = (refl, refl)
      item-kept (Text b e) l o = (refl, refl)
      item-kept (Comment e) l o = (refl, refl)
      item-kept (Unreadable p) l o = (refl, refl)

      item-cells : (x : Item) → is_tag x ≡ true → eqb (role_of w) root_role ≡ false → asks_v w ≡ true → eqb (values_of w) 0 ≡ false → cell_of k + 1 < length u
          → (get_or (shows_as k at w x s u) (cell_of k) 0 ≡ value_start (collapsed w) at (span_of x) s)
          × (get_or (shows_as k at w x s u) (cell_of k + 1) 0 ≡ value_length (collapsed w) (span_of x) s)
      unfolding is_tag shows_as span_of
      item-cells (Start tag) y r e z h = rw z (v-cells doc at s stands u k w tag r e h)
      item-cells (Empty tag) y r e z h = rw z (v-cells doc at s stands u k w tag r e h)
      item-cells (End n e) y r a z h = never y
      item-cells (Text b e) y r a z h = never y
      item-cells (Comment e) y r a z h = never y
      item-cells (Unreadable p) y r a z h = never y

      item-long : (x : Item) → length (shows_as k at w x s u) ≡ length u
      unfolding shows_as
      item-long (Start tag) = by_cond (λ (l : List ℕ). length l ≡ length u) (eqb (values_of w) 0) refl (tag-long doc at s stands u k w tag)
      item-long (Empty tag) = by_cond (λ (l : List ℕ). length l ≡ length u) (eqb (values_of w) 0) refl (tag-long doc at s stands u k w tag)
      item-long (End n e) = refl
      item-long (Text b e) = refl
      item-long (Comment e) = refl
      item-long (Unreadable p) = refl

    -- an element of row q, the m-th series being the last
    module _ (p : Part Placed) (g : Good doc kind p) (few : p.number ≤ most) (given : asks_v (get_or rows p.row 0) ≡ true → there (span_of p.said.item) ≡ true)
        (st : State) (count : st.series ≡ p.number) (pos : ℕ) (t u : List ℕ) (lt : cells_of most ≤ length t) (lu : cell_of header_pairs + cell_of series_pairs * most ≤ length u) where
      abbrev q : ℕ
      q = p.row

      abbrev w : ℕ
      w = get_or rows q 0

      abbrev x : Placed
      x = p.said

      abbrev t' : List ℕ
      t' = series_after x.at (span_of x.item) x.rest st (entry_of (role_of w) pos) t

      abbrev u' : List ℕ
      u' = shown_for rows q p.number x u

      module _ (i : ℕ) (l : i < most) (f : Field) (is : is_view f ≡ true) where
        -- its own view
        sets : role_of w ≡ role_shown f → p.number ≡ i + 1
            → (get_or t' (cell_at i f) 0 ≡ get_or u' (cell_of (pair_at i f)) 0) × (get_or t' (cell_at i f + 1) 0 ≡ get_or u' (cell_of (pair_at i f) + 1) 0)
        unfolding Set value_start value_length pair_in
        sets e n =
            let F = fit f is in
            let a = F.alone q g.low e in
            let low = view-low f is in
            let until = F.until in
            let k : pair_in (first_pair rows q) p.number ≡ pair_at i f =
            rw (a.0, le-ltb _ _ F.from, n) (let z : i + 1 - 1 ≡ i = omega arith in rw z refl) in
            let r = reader-sets x.at (span_of x.item) x.rest st t i f is pos (omega (arith, low, l, lt)) (omega (arith, count, n)) in
            let v = item-cells (pair_at i f) x.at w x.rest g.stands u x.item g.tag a.3 a.1 a.4 (omega (arith, until, l, lu)) in
            let th = given a.1 in
            rw (e, k, r.0, r.1, v.0, v.1, a.2, th) (refl, refl)

        -- any other
        stays : ((role_of w ≡ role_shown f) × (p.number ≡ i + 1) → ⊥)
            → (get_or t (cell_at i f) 0 ≡ get_or u (cell_of (pair_at i f)) 0) × (get_or t (cell_at i f + 1) 0 ≡ get_or u (cell_of (pair_at i f) + 1) 0)
            → (get_or t' (cell_at i f) 0 ≡ get_or u' (cell_of (pair_at i f)) 0) × (get_or t' (cell_at i f + 1) 0 ≡ get_or u' (cell_of (pair_at i f) + 1) 0)
        stays d h =
            let F = fit f is in
            let r = reader-stays x.at (span_of x.item) x.rest st t i f is (role_of w) pos (λ z. d (z.0, numbered z.0 z.1)) in
            let k = item-kept (pair_in (first_pair rows q) p.number) x.at w x.rest g.stands u x.item (pair_at i f)
            (λ e. far (first_pair rows q) (many q) p.number (slot f) i (λ y. in-header kind q g.low e y) (λ y. (in-series kind q g.low e y, g.number e y)) F.from F.until (side e)) in
            (r.0 ∙ h.0 ∙ sym k.0, r.1 ∙ h.1 ∙ sym k.1)
          where
            numbered : role_of w ≡ role_shown f → st.series - 1 ≡ i → p.number ≡ i + 1
            numbered e z =
                let a = (fit f is).alone q g.low e in
                let from : header_pairs ≤ first_pair rows q = rw a.0 (fit f is).from in
                let one = g.number a.4 from in
                omega (arith, z, count, one)

            side : eqb (many q) 0 ≡ false → p.number ≡ i + 1 → (first_pair rows q + many q ≤ slot f) ⊎ (slot f < first_pair rows q)
            side e n =
                let F = fit f is in
                ⊎_elim
                (λ (y : (q < home f) × (ltb q (home f) ≡ true)). inl (before-next kind q (home f) y.0 F.low))
                (λ (y : (home f ≤ q) × (ltb q (home f) ≡ false)).
                ⊎_elim
                (λ (z : (home f ≡ q) × (eqb (home f) q ≡ true)).
                absurd (d (sym (ap (λ (j : ℕ). role_of (get_or rows j 0)) z.0) ∙ with-role (role_shown f) rows (rw z.0 g.low), n)))
                (λ (z : (home f ≡ q → ⊥) × (eqb (home f) q ≡ false)).
                let b = more kind (home f) q y.0 z.0 in
                let low = g.low in
                let h₁ : home f < length rows = omega (arith, b, low) in
                let o = (F.alone (home f) h₁ (with-role (role_shown f) rows h₁)).4 in
                let c = before-next kind (home f) q b (omega (arith, low)) in
                inr (let s = some (many (home f)) o in omega (arith, c, s)))
                (eqb-cases (home f) q))
                (ltb-cases q (home f))

      step-alike : Alike t u → Alike t' u'
      unfolding Alike
      step-alike h i l f is =
          ⊎_elim
          (λ (a : (role_of w ≡ role_shown f) × (eqb (role_of w) (role_shown f) ≡ true)).
          ⊎_elim
          (λ (b : (p.number ≡ i + 1) × (eqb p.number (i + 1) ≡ true)). sets i l f is a.0 b.0)
          (λ (b : (p.number ≡ i + 1 → ⊥) × (eqb p.number (i + 1) ≡ false)). stays i l f is (λ z. b.0 z.1) (h i l f is))
          (eqb-cases p.number (i + 1)))
          (λ (a : (role_of w ≡ role_shown f → ⊥) × (eqb (role_of w) (role_shown f) ≡ false)). stays i l f is (λ z. a.0 z.0) (h i l f is))
          (eqb-cases (role_of w) (role_shown f))

      step-long : (length t' ≡ length t) × (length u' ≡ length u)
      unfolding tables_after
      step-long = ((step-sized (length t) 0 0 x st (entry_of (role_of w) pos) (tab t [] []) (record { series = refl; positions = refl; amounts = refl })).series, item-long (pair_in (first_pair rows q) p.number) x.at w x.rest g.stands u x.item)

    -- ---- along the elements of a content

    pub series-along : (kids : Trees Placed) (y : Tally) → (walked rows (saying kids) y).series ≡ counts_of rows kids y.series
    unfolding walked saying counts_of series_at
    series-along none y = refl
    series-along (element q x inner after) y =
        series-along after (walked rows (saying inner) (opened (get_or rows q 0) (said_of x) y))
        ∙ ap (counts_of rows after) (series-along inner (opened (get_or rows q 0) (said_of x) y))

    pub good-split : (a b : List (Part Placed)) → AllGood doc kind (a ++ b) → AllGood doc kind a × AllGood doc kind b
    unfolding AllGood
    good-split [] b h = (tt, h)
    good-split (p ∷ a) b h = let k = good-split a b h.1 in ((h.0, k.0), k.1)

    pub show-both : (a b : List (Part Placed)) (u : List ℕ) → parts_show rows (a ++ b) u ≡ parts_show rows b (parts_show rows a u)
    unfolding parts_show
    show-both [] b u = refl
    show-both (p ∷ a) b u = show-both a b _

    -- what is known of both tables along the walk
    pub record Both (t u : List ℕ) : Type 0 where
      pub rows-fit : cells_of most ≤ length t
      pub pairs-fit : cell_of header_pairs + cell_of series_pairs * most ≤ length u
      pub same : Alike t u

    both-as : {t u r : List ℕ} → u ≡ r → Both t u → Both t r
    both-as e b = rw e at b

    opened-count : (w : ℕ) (s : TagSaid) (y : Tally) → (opened w s y).series ≡ series_at w y.series
    unfolding series_at
    opened-count w s y = refl

    -- n series before it
    first_step : (q : ℕ) (x : Placed) (y : Tally) (n : ℕ) → y.series ≡ n → (t : Tables) (u : List ℕ) → Good doc kind (part q (series_at (get_or rows q 0) n) x)
        → (asks_v (get_or rows q 0) ≡ true → there (span_of x.item) ≡ true) → series_at (get_or rows q 0) n ≤ most → Both t.series u
        → Both (tables_with kind rows q x (opened (get_or rows q 0) (said_of x) y) t).series (shown_for rows q (series_at (get_or rows q 0) n) x u)
    unfolding tables_after state_of
    first_step q x y n s t u g v c b =
        let y' = opened (get_or rows q 0) (said_of x) y in
        let st = state_of kind q true y' in
        let p = part q (series_at (get_or rows q 0) n) x in
        let e = opened-count (get_or rows q 0) (said_of x) y ∙ ap (series_at (get_or rows q 0)) s in
        let l = step-long p g c v st e (position_of (said_of x)) t.series u b.rows-fit b.pairs-fit in
        record {
          rows-fit = rw l.0 b.rows-fit;
          pairs-fit = rw l.1 b.pairs-fit;
          same = step-alike p g c v st e (position_of (said_of x)) t.series u b.rows-fit b.pairs-fit b.same;
        }

    pub along : (kids : Trees Placed) (y : Tally) (n : ℕ) → y.series ≡ n → (t : Tables) (u : List ℕ) → AllGood doc kind (parts_of rows kids n) → HasValues rows kids
        → counts_of rows kids n ≤ most → Both t.series u → Both (filled kind rows kids y t).series (parts_show rows (parts_of rows kids n) u)
    unfolding filled parts_of parts_show HasValues counts_of AllGood
    along none y n e t u g v c b = b
    along (element q x inner after) y n e t u g v c b =
        let w = get_or rows q 0 in
        let m = series_at w n in
        let y' = opened w (said_of x) y in
        let e' : y'.series ≡ m = opened-count w (said_of x) y ∙ ap (series_at w) e in
        let k = counts_of rows inner m in
        let c₁ = counts_up rows inner m in
        let c₂ = counts_up rows after k in
        let gs = good-split (parts_of rows inner m) (parts_of rows after k) g.1 in
        let s = first_step q x y n e t u g.0 v.0 (omega (arith, c, c₁, c₂)) b in
        let a = along inner y' m e' (tables_with kind rows q x y' t) (shown_for rows q m x u) gs.0 v.1 (omega (arith, c, c₂)) s in
        let f : (walked rows (saying inner) y').series ≡ k = series-along inner y' ∙ ap (counts_of rows inner) e' in
        both-as (sym (show-both (parts_of rows inner m) (parts_of rows after k) (shown_for rows q m x u)))
        (along after (walked rows (saying inner) y') k f (filled kind rows inner y' (tables_with kind rows q x y' t)) (parts_show rows (parts_of rows inner m) (shown_for rows q m x u)) gs.1 v.2 c a)
