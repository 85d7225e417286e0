-- "element order, how often each may come": a draft whose rows that have to come are said conforms to its table. Assumes nothing.
use Prim.Native.Nat.{ℕ, zero, suc, ◌+◌, ◌≤◌, ◌<◌}
use mathlib.Core.Path.{◌≡◌, refl, sym, ap, ◌∙◌, subst}
use mathlib.Core.List.{List, [], ◌∷◌, ◌++◌}
use mathlib.Core.Bool.{Bool, true, false, cond, ◌&&◌, not, and-eq-true_iff}
use mathlib.Core.Logic.{◌⊎◌, inl, inr, ⊎_elim}
use native.Mathlib.Omega.{arith}
use lib.Dec.{eqb, leb, ltb}
use lib.ListN.{length, drop, get_or, length-drop, replicate}
use borrow.Author.Tests.{eqb-true, eq-eqb, le-leb, lt-ltb}
use Rattle.lists.proofs.Below.{every, below}
use Rattle.lists.proofs.Cases.{bool_cases, eqb-cases, leb-cases, ltb-cases, both_true, never}
use Rattle.structure.specs.Rows.{name_of, parent_of, required, repeated}
use Rattle.columns.specs.Columns.{form_of, role_of, series_role, period_role, interval_role}
use Rattle.guideline.specs.Rows.{beschaffungsanforderung, kostenblatt, rows_of}
use Rattle.elements.specs.Names.{names, number_in, element_no}
use Rattle.slices.specs.Same.{same}
use Rattle.states.specs.Attributes.{asks_v}
use Rattle.series.specs.Row.{field_at}
use Rattle.series.specs.declared.Field.TheVariants.{FirstRow, Count}
use Rattle.views.specs.Layout.{values_of}
use Rattle.trees.specs.Trees.{Trees, none, element, rows_taken, Stand, ComesAfter, InOrder, Among, Fits, EachConforms, Conforms}
use Rattle.contents.specs.Said.{TagSaid}
use Rattle.drafts.specs.Draft.{Draft, single_tag, is_said, singles, intervals_from, role_row, pair_for, singles_in, period_tree, series_from, draft_content}
use Rattle.drafts.proofs.Writing.{row-there}

-- ---- the rows with a `v` at the front

unfoldable pub lead : List ℕ → ℕ
lead [] = 0
lead (w ∷ ws) = cond (asks_v w) (suc (lead ws)) 0

-- those of them that are said, from row q on
unfoldable pub said_rows : Draft → ℕ → ℕ → List ℕ → List ℕ
said_rows d q k [] = []
said_rows d q k (w ∷ ws) =
    cond (asks_v w) (cond (is_said (single_tag d w k)) (q ∷ said_rows d (suc q) (k + values_of w) ws) (said_rows d (suc q) (k + values_of w) ws)) []

-- none is missing that has to come
unfoldable pub none_missing : Draft → ℕ → List ℕ → Bool
none_missing d k [] = true
none_missing d k (w ∷ ws) =
    cond (asks_v w) (cond (is_said (single_tag d w k)) true (not (required w)) && none_missing d (k + values_of w) ws) true

-- they stand in row p
unfoldable pub stand_in : ℕ → List ℕ → Bool
stand_in p [] = true
stand_in p (w ∷ ws) = cond (asks_v w) (eqb (parent_of w) p && stand_in p ws) true

module _ (d : Draft) (rows : List ℕ) where
  pub singles-taken : (behind : Trees TagSaid) (ws : List ℕ) (q k : ℕ) → rows_taken (singles d q k ws behind) ≡ said_rows d q k ws ++ rows_taken behind
  unfolding singles said_rows rows_taken
  singles-taken behind [] q k = refl
  singles-taken behind (w ∷ ws) q k = by (asks_v w) (is_said (single_tag d w k)) refl refl (singles-taken behind ws (suc q) (k + values_of w))
    where
      by : (a s : Bool) → asks_v w ≡ a → is_said (single_tag d w k) ≡ s
          → rows_taken (singles d (suc q) (k + values_of w) ws behind) ≡ said_rows d (suc q) (k + values_of w) ws ++ rows_taken behind
          → rows_taken (singles d q k (w ∷ ws) behind) ≡ said_rows d q k (w ∷ ws) ++ rows_taken behind
      by false s y z ih = rw y refl
      by true true y z ih = rw (y, z) (ap (λ (l : List ℕ). q ∷ l) ih)
      by true false y z ih = rw (y, z) ih

  -- ---- in order

  -- the rows in t come at m or after it, in order, and stand in p
  pub record Behind (p m : ℕ) (t : List ℕ) : Type 0 where
    pub stand : Stand rows p t
    pub ordered : InOrder rows t
    pub first : (q : ℕ) → q < m → ComesAfter rows q t

  behind-next : {p : ℕ} (q : ℕ) {t : List ℕ} → q < length rows → parent_of (get_or rows q 0) ≡ p → Behind p (suc q) t → Behind p q (q ∷ t)
  unfolding Stand InOrder ComesAfter
  behind-next q l e b = record { stand = (l, e, b.stand); ordered = (b.first q (omega arith), b.ordered); first = λ r h. inl h }

  behind-less : {p m n : ℕ} {t : List ℕ} → m ≤ n → Behind p n t → Behind p m t
  behind-less h b = record { stand = b.stand; ordered = b.ordered; first = λ q l. b.first q (omega arith) }

  said-behind : (p : ℕ) (t ws : List ℕ) (q k : ℕ) → ws ≡ drop q rows → stand_in p ws ≡ true → Behind p (q + lead ws) t → Behind p q (said_rows d q k ws ++ t)
  unfolding said_rows stand_in lead
  said-behind p t [] q k e h b = behind-less (omega arith) b
  said-behind p t (w ∷ ws) q k e h b =
      by (asks_v w) (is_said (single_tag d w k)) refl refl (λ (s : stand_in p ws ≡ true). said-behind p t ws (suc q) (k + values_of w) (row-there rows q w ws e).1 s)
    where
      inside : q < length rows
      inside = let l = length-drop q rows in let z : suc (length ws) ≡ length (drop q rows) = ap length e in omega (arith, l, z)

      by : (a s : Bool) → asks_v w ≡ a → is_said (single_tag d w k) ≡ s
          → (stand_in p ws ≡ true → Behind p (suc q + lead ws) t → Behind p (suc q) (said_rows d (suc q) (k + values_of w) ws ++ t))
          → Behind p q (said_rows d q k (w ∷ ws) ++ t)
      by false s y z ih = rw y (behind-less (omega arith) b)
      by true s y z ih =
          let u = (and-eq-true_iff (eqb (parent_of w) p) (stand_in p ws)).0 (rw y at h) in
          let n : q + suc (lead ws) ≡ suc q + lead ws = omega arith in
          let more : Behind p (suc q + lead ws) t = subst (λ (m : ℕ). Behind p m t) n (rw y at b) in
          let r = ih u.1 more in
          let here : parent_of (get_or rows q 0) ≡ p = ap parent_of (row-there rows q w ws e).0 ∙ eqb-true (parent_of w) p u.0 in
          with-said s z r (behind-next q inside here r) y
        where
          with-said : (s : Bool) → is_said (single_tag d w k) ≡ s → Behind p (suc q) (said_rows d (suc q) (k + values_of w) ws ++ t)
              → Behind p q (q ∷ (said_rows d (suc q) (k + values_of w) ws ++ t)) → asks_v w ≡ true → Behind p q (said_rows d q k (w ∷ ws) ++ t)
          with-said true z r n y = rw (y, z) n
          with-said false z r n y = rw (y, z) (behind-less (omega arith) r)

  -- ---- none is missing

  among-right : (j : ℕ) (l t : List ℕ) → Among j t → Among j (l ++ t)
  unfolding Among
  among-right j [] t h = h
  among-right j (x ∷ l) t h = inr (among-right j l t h)

  said-among : (t ws : List ℕ) (q k : ℕ) → ws ≡ drop q rows → none_missing d k ws ≡ true → (j : ℕ) → q ≤ j → j < q + lead ws → required (get_or rows j 0) ≡ true
      → Among j (said_rows d q k ws ++ t)
  unfolding said_rows none_missing lead Among
  said-among t [] q k e h j low high r = absurd (omega arith)
  said-among t (w ∷ ws) q k e h j low high r =
      by (asks_v w) refl (λ (s : none_missing d (k + values_of w) ws ≡ true) (l : suc q ≤ j) (m : j < suc q + lead ws). said-among t ws (suc q) (k + values_of w) (row-there rows q w ws e).1 s j l m r)
    where
      by : (a : Bool) → asks_v w ≡ a
          → (none_missing d (k + values_of w) ws ≡ true → suc q ≤ j → j < suc q + lead ws → Among j (said_rows d (suc q) (k + values_of w) ws ++ t))
          → Among j (said_rows d q k (w ∷ ws) ++ t)
      by false y ih = let z : j < q + 0 = rw y at high in absurd (omega (arith, z))
      by true y ih =
          let u = (and-eq-true_iff (cond (is_said (single_tag d w k)) true (not (required w))) (none_missing d (k + values_of w) ws)).0 (rw y at h) in
          let z : j < q + suc (lead ws) = rw y at high in
          ⊎_elim
          (λ (f : (j ≡ q) × (eqb j q ≡ true)).
          let own : required w ≡ true = ap required (sym (row-there rows q w ws e).0) ∙ ap (λ (n : ℕ). required (get_or rows n 0)) (sym f.0) ∙ r in
          here (is_said (single_tag d w k)) refl u.0 own f.0)
          (λ (f : (j ≡ q → ⊥) × (eqb j q ≡ false)).
          let l : suc q ≤ j = let g = f.0 in ⊎_elim (λ (c : (q < j) × (ltb q j ≡ true)). c.0) (λ (c : (j ≤ q) × (ltb q j ≡ false)). absurd (g (omega (arith, c.0)))) (ltb-cases q j) in
          later (is_said (single_tag d w k)) refl (ih u.1 l (omega (arith, z))))
          (eqb-cases j q)
        where
          here : (s : Bool) → is_said (single_tag d w k) ≡ s → cond (is_said (single_tag d w k)) true (not (required w)) ≡ true → required w ≡ true → j ≡ q
              → Among j (said_rows d q k (w ∷ ws) ++ t)
          here true z u own f = rw (y, z) (inl f)
          here false z u own f = never (rw (z, own) at u)

          later : (s : Bool) → is_said (single_tag d w k) ≡ s → Among j (said_rows d (suc q) (k + values_of w) ws ++ t) → Among j (said_rows d q k (w ∷ ws) ++ t)
          later true z g = rw (y, z) (inr g)
          later false z g = rw (y, z) g

-- ---- a level of the table: the rows that stand in row p are those with a `v` from q on, and the row s behind them

unfoldable pub child_at : List ℕ → ℕ → ℕ → ℕ → ℕ → Bool
child_at rows p q s j = cond (eqb (parent_of (get_or rows j 0)) p) (cond (eqb j s) true (cond (leb q j) (ltb j (q + lead (drop q rows))) false)) true

-- row j stands in no row with a `v`
unfoldable pub orphan_at : List ℕ → ℕ → ℕ → Bool
orphan_at rows q j = not (cond (leb q (parent_of (get_or rows j 0))) (ltb (parent_of (get_or rows j 0)) (q + lead (drop q rows))) false)

pub record Level (rows : List ℕ) (p q s : ℕ) : Type 0 where
  pub standing : stand_in p (drop q rows) ≡ true
  pub next : s ≡ q + lead (drop q rows)
  pub there : ltb s (length rows) ≡ true
  pub parent : parent_of (get_or rows s 0) ≡ p
  pub children : every (child_at rows p q s) (length rows) ≡ true
  pub orphans : every (orphan_at rows q) (length rows) ≡ true

ltb-true : (a b : ℕ) → ltb a b ≡ true → a < b
ltb-true a b e = ⊎_elim (λ y. y.0) (λ y. never (sym y.1 ∙ e)) (ltb-cases a b)

leb-is : (a b : ℕ) → leb a b ≡ true → a ≤ b
leb-is a b e = ⊎_elim (λ y. y.0) (λ y. never (sym y.1 ∙ e)) (leb-cases a b)

module _ (d : Draft) (rows : List ℕ) (p q s : ℕ) (v : Level rows p q s) where
  -- a row that stands in p
  child : (j : ℕ) → j < length rows → parent_of (get_or rows j 0) ≡ p → (j ≡ s) ⊎ ((q ≤ j) × (j < q + lead (drop q rows)))
  unfolding child_at
  child j l e =
      let t : child_at rows p q s j ≡ true = below (child_at rows p q s) (length rows) v.children j l in
      let u : cond (eqb j s) true (cond (leb q j) (ltb j (q + lead (drop q rows))) false) ≡ true = rw (eq-eqb (parent_of (get_or rows j 0)) p e) at t in
      ⊎_elim
      (λ (y : (j ≡ s) × (eqb j s ≡ true)). inl y.0)
      (λ (y : (j ≡ s → ⊥) × (eqb j s ≡ false)).
      let w : cond (leb q j) (ltb j (q + lead (drop q rows))) false ≡ true = rw y.1 at u in
      let b = both_true (leb q j) w in
      inr (leb-is q j b.0, ltb-true j (q + lead (drop q rows)) b.1))
      (eqb-cases j s)

  level-fits : (k : ℕ) → none_missing d k (drop q rows) ≡ true → (t : List ℕ) → Behind d rows p s t → (required (get_or rows s 0) ≡ true → Among s t)
      → Fits rows p (said_rows d q k (drop q rows) ++ t)
  level-fits k h t b a =
      let c = said-behind d rows p t (drop q rows) q k refl v.standing (subst (λ (m : ℕ). Behind d rows p m t) v.next b) in
      record {
        stand = c.stand;
        ordered = c.ordered;
        complete =
            λ j l e r.
            ⊎_elim
            (λ (y : j ≡ s).
            among-right d rows j (said_rows d q k (drop q rows)) t (subst (λ (n : ℕ). Among n t) (sym y) (a (subst (λ (n : ℕ). required (get_or rows n 0) ≡ true) y r))))
            (λ (y : (q ≤ j) × (j < q + lead (drop q rows))). said-among d rows t (drop q rows) q k refl h j y.0 y.1 r)
            (child j l e);
      }

  -- nothing has to stand in a row with a `v`
  leaf-fits : (r : ℕ) → q ≤ r → r < q + lead (drop q rows) → Fits rows r []
  unfolding Stand InOrder orphan_at
  leaf-fits r low high =
      record {
        stand = tt;
        ordered = tt;
        complete =
            λ j l e h.
            let t : orphan_at rows q j ≡ true = below (orphan_at rows q) (length rows) v.orphans j l in
            let u : not (cond (leb q r) (ltb r (q + lead (drop q rows))) false) ≡ true = rw e at t in
            never (rw (le-leb q r low, lt-ltb r (q + lead (drop q rows)) high) at u);
      }

  level-each : (behind : Trees TagSaid) → EachConforms rows behind → (ws : List ℕ) (r k : ℕ) → ws ≡ drop r rows → q ≤ r → r + lead ws ≤ q + lead (drop q rows)
      → EachConforms rows (singles d r k ws behind)
  unfolding singles EachConforms lead rows_taken
  level-each behind c [] r k e low high = c
  level-each behind c (w ∷ ws) r k e low high =
      by (asks_v w) refl (λ (h : suc r + lead ws ≤ q + lead (drop q rows)). level-each behind c ws (suc r) (k + values_of w) (row-there rows r w ws e).1 (omega arith) h)
    where
      rest : Trees TagSaid
      rest = singles d (suc r) (k + values_of w) ws behind

      by : (a : Bool) → asks_v w ≡ a → (suc r + lead ws ≤ q + lead (drop q rows) → EachConforms rows rest)
          → EachConforms rows (cond (asks_v w) (cond (is_said (single_tag d w k)) (element r (single_tag d w k) none rest) rest) behind)
      by false y ih = rw y c
      by true y ih =
          let z : r + suc (lead ws) ≤ q + lead (drop q rows) = rw y at high in
          let g = ih (omega (arith, z)) in
          rw y
          (⊎_elim
          (λ (t : is_said (single_tag d w k) ≡ true). rw t (leaf-fits r low (omega (arith, z)), tt, g))
          (λ (t : is_said (single_tag d w k) ≡ false). rw t g)
          (bool_cases (is_said (single_tag d w k))))

-- ---- rows behind those with a `v`

module _ (d : Draft) (rows : List ℕ) (p s : ℕ) (there : s < length rows) (parent : parent_of (get_or rows s 0) ≡ p) where
  once-behind : Behind d rows p s (s ∷ [])
  unfolding Stand InOrder ComesAfter
  once-behind = record { stand = (there, parent, tt); ordered = (tt, tt); first = λ q h. inl h }

  again_behind : repeated (get_or rows s 0) ≡ true → (n : ℕ) → Behind d rows p s (replicate n s)
  unfolding Stand InOrder ComesAfter
  again_behind again zero = record { stand = tt; ordered = tt; first = λ q h. tt }
  again_behind again (suc n) =
      let b = again_behind again n in
      record { stand = (there, parent, b.stand); ordered = (next n, b.ordered); first = λ q h. inl h }
    where
      next : (n : ℕ) → ComesAfter rows s (replicate n s)
      next zero = tt
      next (suc n) = inr (refl, again)

  pub some-among : (n : ℕ) → 1 ≤ n → Among s (replicate n s)
  unfolding Among
  some-among zero h = absurd (omega arith)
  some-among (suc n) h = inl refl

pub series-taken : (d : Draft) (rows : List ℕ) (i n : ℕ) → rows_taken (series_from d rows i n) ≡ replicate n (role_row series_role rows)
unfolding series_from rows_taken
series-taken d rows i zero = refl
series-taken d rows i (suc n) = ap (λ (l : List ℕ). role_row series_role rows ∷ l) (series-taken d rows (suc i) n)

pub intervals-taken : (d : Draft) (q j n : ℕ) → rows_taken (intervals_from d q j n) ≡ replicate n q
unfolding intervals_from rows_taken
intervals-taken d q j zero = refl
intervals-taken d q j (suc n) = ap (λ (l : List ℕ). q ∷ l) (intervals-taken d q (suc j) n)

pub period-taken : (d : Draft) (rows : List ℕ) (i : ℕ) → rows_taken (period_tree d rows i) ≡ role_row period_role rows ∷ []
unfolding period_tree rows_taken
period-taken d rows i = refl

-- ---- the tables of the two kinds

-- only row 1 stands in the document, only the two rows after Interval's stand in it, and none in those
unfoldable pub outer_at : List ℕ → ℕ → ℕ → Bool
outer_at rows q j =
    cond (eqb (parent_of (get_or rows j 0)) 0) (eqb j 1) true
    && cond (eqb (parent_of (get_or rows j 0)) q) (cond (eqb j (suc q)) true (eqb j (suc (suc q)))) true
    && not (eqb (parent_of (get_or rows j 0)) (suc q))
    && not (eqb (parent_of (get_or rows j 0)) (suc (suc q)))

pub record Levels (rows : List ℕ) : Type 0 where
  pub header : Level rows 1 2 (role_row series_role rows)
  pub series : Level rows (role_row series_role rows) (suc (role_row series_role rows)) (role_row period_role rows)
  pub period : Level rows (role_row period_role rows) (suc (role_row period_role rows)) (role_row interval_role rows)
  pub series-again : repeated (get_or rows (role_row series_role rows) 0) ≡ true
  pub interval-again : repeated (get_or rows (role_row interval_role rows) 0) ≡ true
  pub outer : every (outer_at rows (role_row interval_role rows)) (length rows) ≡ true
  pub root : (ltb 1 (length rows) ≡ true) × (parent_of (get_or rows 1 0) ≡ 0)
  pub position : (ltb (suc (suc (role_row interval_role rows))) (length rows) ≡ true) × (parent_of (get_or rows (suc (role_row interval_role rows)) 0) ≡ role_row interval_role rows)
  pub amount : parent_of (get_or rows (suc (suc (role_row interval_role rows))) 0) ≡ role_row interval_role rows

levels-one : Levels beschaffungsanforderung
unfolding beschaffungsanforderung element_no names number_in same name_of form_of role_of asks_v role_row parent_of repeated lead stand_in child_at orphan_at outer_at
levels-one =
    record {
      header = record { standing = refl; next = refl; there = refl; parent = refl; children = refl; orphans = refl };
      series = record { standing = refl; next = refl; there = refl; parent = refl; children = refl; orphans = refl };
      period = record { standing = refl; next = refl; there = refl; parent = refl; children = refl; orphans = refl };
      series-again = refl;
      interval-again = refl;
      outer = refl;
      root = (refl, refl);
      position = (refl, refl);
      amount = refl;
    }

levels-two : Levels kostenblatt
unfolding kostenblatt element_no names number_in same name_of form_of role_of asks_v role_row parent_of repeated lead stand_in child_at orphan_at outer_at
levels-two =
    record {
      header = record { standing = refl; next = refl; there = refl; parent = refl; children = refl; orphans = refl };
      series = record { standing = refl; next = refl; there = refl; parent = refl; children = refl; orphans = refl };
      period = record { standing = refl; next = refl; there = refl; parent = refl; children = refl; orphans = refl };
      series-again = refl;
      interval-again = refl;
      outer = refl;
      root = (refl, refl);
      position = (refl, refl);
      amount = refl;
    }

pub levels : (kind : ℕ) → cond (eqb kind 1) true (eqb kind 2) ≡ true → Levels (rows_of kind)
unfolding rows_of
levels kind h =
    ⊎_elim
    (λ (y : (kind ≡ 1) × (eqb kind 1 ≡ true)). rw y.1 levels-one)
    (λ (y : (kind ≡ 1 → ⊥) × (eqb kind 1 ≡ false)). let e : eqb kind 2 ≡ true = rw y.1 at h in rw (y.1, e) levels-two)
    (eqb-cases kind 1)

-- ---- the content of a draft

-- nothing is missing that has to come
pub record NoneMissing (d : Draft) (rows : List ℕ) : Type 0 where
  pub header : none_missing d (pair_for rows 2 0) (drop 2 rows) ≡ true
  pub some : 1 ≤ d.count
  pub series : (i : ℕ) → i < d.count → none_missing d (pair_for rows (suc (role_row series_role rows)) i) (drop (suc (role_row series_role rows)) rows) ≡ true
  pub period : (i : ℕ) → i < d.count → none_missing d (pair_for rows (suc (role_row period_role rows)) i) (drop (suc (role_row period_role rows)) rows) ≡ true
  pub intervals : (i : ℕ) → i < d.count → 1 ≤ field_at d.series i Count

module _ (d : Draft) (rows : List ℕ) (v : Levels rows) where
  abbrev inner : ℕ
  inner = role_row interval_role rows

  outer-at : (j : ℕ) → j < length rows
      → (cond (eqb (parent_of (get_or rows j 0)) 0) (eqb j 1) true ≡ true)
      × (cond (eqb (parent_of (get_or rows j 0)) inner) (cond (eqb j (suc inner)) true (eqb j (suc (suc inner)))) true ≡ true)
      × (not (eqb (parent_of (get_or rows j 0)) (suc inner)) ≡ true) × (not (eqb (parent_of (get_or rows j 0)) (suc (suc inner))) ≡ true)
  unfolding outer_at
  outer-at j l =
      let t : outer_at rows inner j ≡ true = below (outer_at rows inner) (length rows) v.outer j l in
      let a = (and-eq-true_iff (cond (eqb (parent_of (get_or rows j 0)) 0) (eqb j 1) true && cond (eqb (parent_of (get_or rows j 0)) inner) (cond (eqb j (suc inner)) true (eqb j (suc (suc inner)))) true && not (eqb (parent_of (get_or rows j 0)) (suc inner))) _).0 t in
      let b = (and-eq-true_iff (cond (eqb (parent_of (get_or rows j 0)) 0) (eqb j 1) true && cond (eqb (parent_of (get_or rows j 0)) inner) (cond (eqb j (suc inner)) true (eqb j (suc (suc inner)))) true) _).0 a.0 in
      let c = (and-eq-true_iff (cond (eqb (parent_of (get_or rows j 0)) 0) (eqb j 1) true) _).0 b.0 in
      (c.0, c.1, b.1, a.1)

  root-fits : Fits rows 0 (1 ∷ [])
  unfolding Stand InOrder ComesAfter Among
  root-fits =
      record {
        stand = (ltb-true 1 (length rows) v.root.0, v.root.1, tt);
        ordered = (tt, tt);
        complete = λ j l e r. let t = (outer-at j l).0 in inl (eqb-true j 1 (rw (eq-eqb (parent_of (get_or rows j 0)) 0 e) at t));
      }

  interval-fits : Fits rows inner (suc inner ∷ suc (suc inner) ∷ [])
  unfolding Stand InOrder ComesAfter Among
  interval-fits =
      let l = ltb-true (suc (suc inner)) (length rows) v.position.0 in
      record {
        stand = (omega arith, v.position.1, (l, v.amount, tt));
        ordered = (inl (omega arith), (tt, tt));
        complete =
            λ j h e r.
            let t : cond (eqb j (suc inner)) true (eqb j (suc (suc inner))) ≡ true = rw (eq-eqb (parent_of (get_or rows j 0)) inner e) at (outer-at j h).1 in
            ⊎_elim
            (λ (y : (j ≡ suc inner) × (eqb j (suc inner) ≡ true)). inl y.0)
            (λ (y : (j ≡ suc inner → ⊥) × (eqb j (suc inner) ≡ false)). inr (inl (eqb-true j (suc (suc inner)) (rw y.1 at t))))
            (eqb-cases j (suc inner));
      }

  position-fits : Fits rows (suc inner) []
  unfolding Stand InOrder
  position-fits =
      record { stand = tt; ordered = tt; complete = λ j l e r. never (rw (eq-eqb (parent_of (get_or rows j 0)) (suc inner) e) at (outer-at j l).2) }

  amount-fits : Fits rows (suc (suc inner)) []
  unfolding Stand InOrder
  amount-fits =
      record { stand = tt; ordered = tt; complete = λ j l e r. never (rw (eq-eqb (parent_of (get_or rows j 0)) (suc (suc inner)) e) at (outer-at j l).3) }

  intervals-each : (j n : ℕ) → EachConforms rows (intervals_from d inner j n)
  unfolding intervals_from EachConforms rows_taken
  intervals-each j zero = tt
  intervals-each j (suc n) = (interval-fits, (position-fits, tt, (amount-fits, tt, tt)), intervals-each (suc j) n)

  module _ (m : NoneMissing d rows) where
    period-each : (i : ℕ) → i < d.count → EachConforms rows (period_tree d rows i)
    unfolding period_tree singles_in EachConforms
    period-each i h =
        let p = role_row period_role rows in
        let k = pair_for rows (suc p) i in
        let there = ltb-true inner (length rows) v.period.there in
        let n = field_at d.series i Count in
        let f = field_at d.series i FirstRow in
        let taken = singles-taken d rows (intervals_from d inner f n) (drop (suc p) rows) (suc p) k ∙ ap (λ (l : List ℕ). said_rows d (suc p) k (drop (suc p) rows) ++ l) (intervals-taken d inner f n) in (
          subst (Fits rows p) (sym taken)
              (level-fits d rows p (suc p) inner v.period k (m.period i h) (replicate n inner) (again_behind d rows p inner there v.period.parent v.interval-again n)
              (λ r. some-among d rows p inner there v.period.parent n (m.intervals i h))),
          level-each d rows p (suc p) inner v.period (intervals_from d inner f n) (intervals-each f n) (drop (suc p) rows) (suc p) k refl (omega arith) (omega arith),
          tt,
        )

    series-each : (i n : ℕ) → i + n ≤ d.count → EachConforms rows (series_from d rows i n)
    unfolding series_from singles_in EachConforms Among
    series-each i zero h = tt
    series-each i (suc n) h =
        let s = role_row series_role rows in
        let p = role_row period_role rows in
        let k = pair_for rows (suc s) i in
        let there = ltb-true p (length rows) v.series.there in
        let l : i < d.count = omega arith in (
          subst (Fits rows s) (sym (singles-taken d rows (period_tree d rows i) (drop (suc s) rows) (suc s) k ∙ one-period i))
              (level-fits d rows s (suc s) p v.series k (m.series i l) (p ∷ []) (once-behind d rows s p there v.series.parent) (λ r. inl refl)),
          level-each d rows s (suc s) p v.series (period_tree d rows i) (period-each i l) (drop (suc s) rows) (suc s) k refl (omega arith) (omega arith),
          series-each (suc i) n (omega arith),
        )
      where
        one-period : (i : ℕ) → said_rows d (suc (role_row series_role rows)) (pair_for rows (suc (role_row series_role rows)) i) (drop (suc (role_row series_role rows)) rows) ++ rows_taken (period_tree d rows i)
            ≡ said_rows d (suc (role_row series_role rows)) (pair_for rows (suc (role_row series_role rows)) i) (drop (suc (role_row series_role rows)) rows) ++ (role_row period_role rows ∷ [])
        one-period i = ap (λ (l : List ℕ). said_rows d (suc (role_row series_role rows)) (pair_for rows (suc (role_row series_role rows)) i) (drop (suc (role_row series_role rows)) rows) ++ l) (period-taken d rows i)

-- a draft in which nothing is missing conforms
pub draft-conforms : (d : Draft) → cond (eqb d.kind 1) true (eqb d.kind 2) ≡ true → NoneMissing d (rows_of d.kind) → Conforms (rows_of d.kind) 0 (draft_content d)
unfolding draft_content singles_in EachConforms rows_taken
draft-conforms d kind m =
    let rows = rows_of d.kind in
    let v = levels d.kind kind in
    let s = role_row series_role rows in
    let k = pair_for rows 2 0 in
    let there = ltb-true s (length rows) v.header.there in
    let content = series_from d rows 0 d.count in
    let taken = singles-taken d rows content (drop 2 rows) 2 k ∙ ap (λ (l : List ℕ). said_rows d 2 k (drop 2 rows) ++ l) (series-taken d rows 0 d.count) in
    record {
      fits = root-fits d rows v;
      each = (
        subst (Fits rows 1) (sym taken)
            (level-fits d rows 1 2 s v.header k m.header (replicate d.count s) (again_behind d rows 1 s there v.header.parent v.series-again d.count)
            (λ r. some-among d rows 1 s there v.header.parent d.count m.some)),
        level-each d rows 1 2 s v.header content (series-each d rows v m 0 d.count (omega arith)) (drop 2 rows) 2 k refl (omega arith) (omega arith),
        tt,
      );
    }
