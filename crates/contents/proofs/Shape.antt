-- The shape of a content that conforms: which row stands in which; one root, in it values and then series, in a series values and then one Period; an
-- Interval with its Pos and Qty; and what comes once. Assumes nothing.
use Prim.Native.Nat.{ℕ, ◌+◌, ◌≤◌, ◌<◌}
use mathlib.Core.Path.{◌≡◌, refl, sym, ap, subst, ◌∙◌}
use mathlib.Core.List.{List, [], ◌∷◌}
use mathlib.Core.Bool.{Bool, true, false, cond}
use mathlib.Core.Logic.{⊎_elim}
use native.Mathlib.Omega.{arith}
use lib.Dec.{eqb}
use lib.ListN.{length, get_or}
use borrow.Author.Tests.{eq-eqb, ne_eqb, le-leb, lt-leb}
use Rattle.lists.proofs.Cases.{eqb-cases, leb-cases, ltb-cases, zero-not-one, up}
use Rattle.structure.specs.Rows.{parent_of, required, repeated}
use Rattle.columns.specs.Columns.{role_of}
use Rattle.trees.specs.Trees.{Trees, none, element, rows_taken, Stand, ComesAfter, InOrder, Among, Fits, EachConforms, Conforms}
use Rattle.trees.proofs.Made.{made, child-after}
use Rattle.contents.specs.Legal.{has_role, those}
use Rattle.contents.proofs.Laid.{home, Layout, series_at}
use Rattle.contents.proofs.Elements.{Within, within_more, beside, those-of, no-role}

-- where row q stands: in row h; r is the row of a series
data Place (r p h q : ℕ) : Type 0 where
  in-document : h ≡ 0 → q ≡ 1 → Place r p h q
  in-root : h ≡ 1 → 1 < q → q ≤ r → Place r p h q
  in-series : h ≡ r → r < q → q ≤ p → Place r p h q
  in-period : h ≡ p → p < q → q ≤ p + 3 → Place r p h q
  in-interval : h ≡ p + 3 → p + 3 < q → Place r p h q

home-place : (r p q : ℕ) → 0 < q → Place r p (home r p q) q
home-place r p q a =
    ⊎_elim
    (λ y. rw y.1 (in-document refl (omega (arith, y.0, a))))
    (λ y. rw y.1
    (⊎_elim
    (λ z. rw z.1 (in-root refl y.0 z.0))
    (λ z. rw z.1
    (⊎_elim
    (λ u. rw u.1 (in-series refl z.0 u.0))
    (λ u. rw u.1
    (⊎_elim (λ v. rw v.1 (in-period refl u.0 v.0)) (λ v. rw v.1 (in-interval refl v.0)) (leb-cases q (p + 3))))
    (leb-cases q p)))
    (leb-cases q r)))
    (leb-cases q 1)

element-is : {A : Type 0} {q k : ℕ} {tag : A} {inner other after : Trees A} → q ≡ k → inner ≡ other → after ≡ none
    → element q tag inner after ≡ element k tag other none
element-is e f g = cc

module _ (rows : List ℕ) (p : ℕ) (L : Layout rows p) where
  -- ---- which row stands in which

  -- what stands in a row comes after it
  pub later : (h q : ℕ) → h < length rows → q < length rows → parent_of (get_or rows q 0) ≡ h → h < q
  later h q a b e = child-after rows (made rows L.well) h q a b e

  place : (h q : ℕ) → h < length rows → q < length rows → parent_of (get_or rows q 0) ≡ h → Place (series_at L) p h q
  place h q a b e =
      let l : 0 < q = omega (arith, later h q a b e) in
      subst (λ (i : ℕ). Place (series_at L) p i q) (sym (L.stands q l b) ∙ e) (home-place (series_at L) p q l)

  -- the last row that stands in the document, in the root and in a series
  abbrev last_in : ℕ → ℕ
  last_in h = cond (eqb h 0) 1 (cond (eqb h 1) (series_at L) p)

  last-in-series : last_in (series_at L) ≡ p
  last-in-series = rw (ne_eqb (series_at L) 0 (λ z. omega (arith, z)), ne_eqb (series_at L) 1 (λ z. omega (arith, z)))

  not-past : (h q : ℕ) → h ≤ series_at L → q < length rows → parent_of (get_or rows q 0) ≡ h → q ≤ last_in h
  not-past h q a l e = by (place h q (let s = L.size in let w = L.wide in omega (arith, s, w, a)) l e)
    where
      by : Place (series_at L) p h q → q ≤ last_in h
      by (in-document f g) = rw f (omega (arith, g))
      by (in-root f g k) = rw f k
      by (in-series f g k) = rw (f, last-in-series) k
      by (in-period f g k) = absurd (let w = L.wide in omega (arith, f, w, a))
      by (in-interval f g) = absurd (let w = L.wide in omega (arith, f, w, a))

  pub under-document : (q : ℕ) → q < length rows → parent_of (get_or rows q 0) ≡ 0 → q ≡ 1
  under-document q l e =
      let s = L.size in
      let a = later 0 q (omega (arith, s)) l e in
      let b = not-past 0 q (omega arith) l e in
      omega (arith, a, b)

  pub under-root : (q : ℕ) → q < length rows → parent_of (get_or rows q 0) ≡ 1 → (1 < q) × (q ≤ series_at L)
  under-root q l e = let s = L.size in (later 1 q (omega (arith, s)) l e, not-past 1 q (omega arith) l e)

  under-series : (q : ℕ) → q < length rows → parent_of (get_or rows q 0) ≡ series_at L → (series_at L < q) × (q ≤ p)
  under-series q l e = let s = L.size in (later (series_at L) q (omega (arith, s, L.wide)) l e, rw last-in-series at (not-past (series_at L) q (omega arith) l e))

  pub series-in : parent_of (get_or rows (series_at L) 0) ≡ 1
  series-in =
      let s = L.size in
      let w = L.wide in
      L.stands (series_at L) (omega arith) (omega (arith, s, w)) ∙ rw (lt-leb (series_at L) 1 (omega arith), le-leb (series_at L) (series_at L) (omega arith)) refl

  pub in-series-row : (k : ℕ) → series_at L < k → k ≤ p → parent_of (get_or rows k 0) ≡ (series_at L)
  in-series-row k a b =
      let s = L.size in
      L.stands k (omega (arith, a)) (omega (arith, s, b)) ∙ rw (lt-leb k 1 (omega (arith, a)), lt-leb k (series_at L) a, le-leb k p b) refl

  pub in-interval-row : (k : ℕ) → p + 3 < k → k < length rows → parent_of (get_or rows k 0) ≡ p + 3
  in-interval-row k a l =
      let w = L.wide in
      L.stands k (omega (arith, a)) l
      ∙ rw (lt-leb k 1 (omega (arith, a)), lt-leb k (series_at L) (omega (arith, a, w)), lt-leb k p (omega (arith, a)), lt-leb k (p + 3) a) refl

  -- a row that no row stands in: its elements have nothing in them
  pub leaf : {A : Type 0} (q : ℕ) (inner : Trees A) → q < length rows → (q ≡ 0 → ⊥) → (q ≡ 1 → ⊥) → (q ≡ series_at L → ⊥) → (q ≡ p → ⊥) → (q ≡ p + 3 → ⊥)
      → Stand rows q (rows_taken inner) → inner ≡ none
  unfolding rows_taken Stand
  leaf q none l a b c d e s = refl
  leaf q (element r x inner after) l a b c d e s = absurd (by (place q r l s.0 s.1))
    where
      by : Place (series_at L) p q r → ⊥
      by (in-document f g) = a f
      by (in-root f g h) = b f
      by (in-series f g h) = c f
      by (in-period f g h) = d f
      by (in-interval f g) = e f

  -- a value of the root or of a series
  value-bare : {A : Type 0} (q : ℕ) (inner : Trees A) → 1 < q → (q ≡ series_at L → ⊥) → q < p → Stand rows q (rows_taken inner) → inner ≡ none
  value-bare q inner a c b s =
      let z = L.size in
      leaf q inner (omega (arith, z, b)) (λ e. omega (arith, e, a)) (λ e. omega (arith, e, a)) c (λ e. omega (arith, e, b)) (λ e. omega (arith, e, b)) s

  -- Pos and Qty
  interval-bare : {A : Type 0} (q : ℕ) (inner : Trees A) → q < length rows → p + 3 < q → Stand rows q (rows_taken inner) → inner ≡ none
  interval-bare q inner l a s =
      let w = L.wide in
      leaf q inner l (λ e. omega (arith, e, a)) (λ e. omega (arith, e, a, w)) (λ e. omega (arith, e, a, w)) (λ e. omega (arith, e, a)) (λ e. omega (arith, e, a)) s

  -- ---- in which order

  root-once : repeated (get_or rows 1 0) ≡ false
  root-once = let z = L.size in L.once 1 (omega (arith, z)) (λ e. omega (arith, e)) (λ e. omega (arith, e))

  period-once : repeated (get_or rows p 0) ≡ false
  period-once = let z = L.size in let w = L.wide in L.once p (omega (arith, z)) (λ e. omega (arith, e, w)) (λ e. omega (arith, e))

  -- past a row that does not come again
  further : (k r q : ℕ) (qs : List ℕ) → repeated (get_or rows k 0) ≡ false → k ≤ r → ComesAfter rows r (q ∷ qs) → k < q
  unfolding ComesAfter
  further k r q qs o b c =
      ⊎_elim
      (λ (h : r < q). omega (arith, h, b))
      (λ (h : (q ≡ r) × (repeated (get_or rows r 0) ≡ true)).
      ⊎_elim
      (λ y. omega (arith, y.0, h.0))
      (λ y.
      let z : r ≡ k = omega (arith, y.0, b) in
      let v : ◌≡◌ {A = Bool} true false = sym h.1 ∙ ap (λ (i : ℕ). repeated (get_or rows i 0)) z ∙ o in
      absurd (zero-not-one (cc)))
      (ltb-cases k r))
      c

  -- a row among those that come after row r
  among-after : (k r : ℕ) (qs : List ℕ) → ComesAfter rows r qs → InOrder rows qs → Among k qs → r ≤ k
  unfolding ComesAfter InOrder Among
  among-after k r [] a o m = absurd m
  among-after k r (q ∷ qs) a o m =
      let b : r ≤ q = ⊎_elim (λ (g : r < q). omega (arith, g)) (λ (g : (q ≡ r) × (repeated (get_or rows r 0) ≡ true)). omega (arith, g.0)) a in
      ⊎_elim (λ (e : k ≡ q). omega (arith, b, e)) (λ h. let z = among-after k q qs o.0 o.1 h in omega (arith, z, b)) m

  -- the values of a series come once
  value-once : (k : ℕ) → series_at L < k → k < p → repeated (get_or rows k 0) ≡ false
  value-once k a b =
      let z = L.size in L.once k (omega (arith, z, b)) (λ (e : k ≡ series_at L). omega (arith, e, a)) (λ (e : k ≡ p + 3). omega (arith, e, b))

  module _ {A : Type 0} where
    -- nothing comes after the last row that may stand in h, where that comes once
    alone : (k h : ℕ) (c : Trees A) → repeated (get_or rows k 0) ≡ false → ((q : ℕ) → q < length rows → parent_of (get_or rows q 0) ≡ h → q ≤ k)
        → ComesAfter rows k (rows_taken c) → Stand rows h (rows_taken c) → c ≡ none
    unfolding rows_taken Stand
    alone k h none o u f s = refl
    alone k h (element r tag inner after) o u f s =
        let a = further k k r (rows_taken after) o (omega arith) f in
        let b = u r s.0 s.1 in
        absurd (omega (arith, a, b))

    -- what stands in a row comes after it in the table, at any depth
    beyond : (b h : ℕ) (c : Trees A) → b ≤ h → h < length rows → Stand rows h (rows_taken c) → EachConforms rows c
        → Within (λ q. (b < q) × (q < length rows)) c
    unfolding Stand rows_taken EachConforms Within
    beyond b h none l m s each = tt
    beyond b h (element q tag inner after) l m s each =
        let d = later h q m s.0 s.1 in (
          (omega (arith, d, l), s.0),
          beyond b q inner (omega (arith, d, l)) s.0 each.0.stand each.1,
          beyond b h after l m s.2 each.2,
        )

    -- ---- an Interval

    two_made : (a b : ℕ) (x z : A) (i j c : Trees A) → a ≡ p + 4 → b ≡ p + 5 → i ≡ none → j ≡ none → c ≡ none
        → element a x i (element b z j c) ≡ element (p + 4) x none (element (p + 5) z none none)
    two_made a b x z i j c e f g h k = cc

    -- it holds Pos and Qty
    pub holds-two : (inner : Trees A) → Fits rows (p + 3) (rows_taken inner) → EachConforms rows inner
        → (x : A) × (z : A) × (inner ≡ element (p + 4) x none (element (p + 5) z none none))
    unfolding rows_taken Stand InOrder Among EachConforms
    holds-two none f each =
        let s = L.size in
        absurd (f.complete (p + 4) (omega (arith, s)) (in-interval-row (p + 4) (omega arith) (omega (arith, s))) L.must-pos)
    holds-two (element a x i none) f each =
        let s = L.size in
        let u = f.complete (p + 4) (omega (arith, s)) (in-interval-row (p + 4) (omega arith) (omega (arith, s))) L.must-pos in
        let v = f.complete (p + 5) (omega (arith, s)) (in-interval-row (p + 5) (omega arith) (omega (arith, s))) L.must-qty in
        absurd (⊎_elim (λ (d : p + 4 ≡ a). ⊎_elim (λ (e : p + 5 ≡ a). omega (arith, d, e)) (λ e. e) v) (λ d. d) u)
    holds-two (element a x i (element b z j c)) f each =
        let s = L.size in
        let w = L.wide in
        let st = f.stand in
        let k = later (p + 3) a (omega (arith, s)) st.0 st.1 in
        let m = later (p + 3) b (omega (arith, s)) st.2.0 st.2.1 in
        let once : (q : ℕ) → p + 3 < q → q < length rows → repeated (get_or rows q 0) ≡ false =
        λ q g l. L.once q l (λ e. omega (arith, e, g, w)) (λ e. omega (arith, e, g)) in
        let lt = further a a b (rows_taken c) (once a k st.0) (omega arith) f.ordered.0 in
        let lb = st.2.0 in
        let eb : b ≡ p + 5 = omega (arith, s, k, lt, lb) in
        let n = alone b (p + 3) c (once b m lb) (λ q l e. omega (arith, s, l, eb)) f.ordered.1.0 st.2.2 in
        (x, z, two_made a b x z i j c (omega (arith, k, lt, eb)) eb (interval-bare a i st.0 k each.0.stand) (interval-bare b j lb m each.2.0.stand) n)

    -- ---- a series

    -- in a series: values, and then its Period
    pub record SeriesShape (c : Trees A) : Type 0 where
      pub head : Trees A
      pub tag : A
      pub inner : Trees A
      pub is : c ≡ beside head (element p tag inner none)
      pub heads : Within (λ q. (series_at L < q) × (q < p)) head
      pub deep : Within (λ q. (p < q) × (q < length rows)) inner

    series-shape : (c : Trees A) → Stand rows (series_at L) (rows_taken c) → InOrder rows (rows_taken c) → EachConforms rows c → Among p (rows_taken c) → SeriesShape c
    unfolding Stand rows_taken InOrder EachConforms Among Within beside
    series-shape none s o each m = absurd m
    series-shape (element q tag inner after) s o each m =
        ⊎_elim
        (λ (y : (q ≡ p) × _).
        let last = alone p (series_at L) after period-once (λ r l e. (under-series r l e).1) (subst (λ (i : ℕ). ComesAfter rows i (rows_taken after)) y.0 o.0) s.2 in
        record {
          head = none;
          tag = tag;
          inner = inner;
          is = element-is y.0 refl last;
          heads = tt;
          deep = beyond p q inner (omega (arith, y.0)) s.0 each.0.stand each.1;
        })
        (λ (y : (q ≡ p → ⊥) × _).
        let u = under-series q s.0 s.1 in
        let h : q < p = let z = up q u.1 (λ e. y.0 (sym e)) in omega (arith, z) in
        let t = series-shape after s.2 o.1 each.2 (⊎_elim (λ (e : p ≡ q). absurd (y.0 (sym e))) (λ k. k) m) in
        let n = value-bare q inner (omega (arith, u.0)) (λ (e : q ≡ series_at L). omega (arith, e, u.0)) h each.0.stand in
        record {
          head = element q tag none t.head;
          tag = t.tag;
          inner = t.inner;
          is = ap (λ i. element q tag i after) n ∙ ap (λ a. element q tag none a) t.is;
          heads = ((u.0, h), tt, t.heads);
          deep = t.deep;
        })
        (eqb-cases q p)

    -- ---- its first values, where they have to come

    -- none of them is of a row before k
    abbrev From : ℕ → Trees A → Type 0
    From k none = Unit {0}
    From k (element q tag inner after) = k ≤ q

    -- row k is the first of them
    record Led (k : ℕ) (c : Trees A) : Type 0 where
      tag : A
      after : Trees A
      is : c ≡ element k tag none after
      comes : ComesAfter rows k (rows_taken after)
      ordered : InOrder rows (rows_taken after)
      stands : Stand rows (series_at L) (rows_taken after)
      each : EachConforms rows after
      others : (j : ℕ) → k < j → Among j (rows_taken c) → Among j (rows_taken after)

    lead : (k : ℕ) → series_at L < k → k < p → (c : Trees A) → From k c → Stand rows (series_at L) (rows_taken c) → InOrder rows (rows_taken c) → EachConforms rows c
        → Among k (rows_taken c) → Led k c
    unfolding rows_taken Stand InOrder Among EachConforms
    lead k a b none f s o each m = absurd m
    lead k a b (element q tag inner after) f s o each m =
        let e : q ≡ k =
        ⊎_elim (λ (g : k ≡ q). sym g) (λ g. let z = among-after k q (rows_taken after) o.0 o.1 g in omega (arith, z, f)) m in
        let n = value-bare q inner (omega (arith, a, e)) (λ (z : q ≡ series_at L). omega (arith, z, a, e)) (omega (arith, b, e)) each.0.stand in
        record {
          tag = tag;
          after = after;
          is = ap (λ i. element q tag i after) n ∙ ap (λ (i : ℕ). element i tag none after) e;
          comes = subst (λ (i : ℕ). ComesAfter rows i (rows_taken after)) e o.0;
          ordered = o.1;
          stands = s.2;
          each = each.2;
          others = λ j l h. ⊎_elim (λ (z : j ≡ q). absurd (omega (arith, z, l, e))) (λ z. z) h;
        }

    stand-from : (c : Trees A) → Stand rows (series_at L) (rows_taken c) → From (series_at L + 1) c
    unfolding rows_taken Stand
    stand-from none s = tt
    stand-from (element q tag inner after) s = let z = (under-series q s.0 s.1).0 in omega (arith, z)

    next-from : (k j : ℕ) → j ≡ k + 1 → repeated (get_or rows k 0) ≡ false → (c : Trees A) → ComesAfter rows k (rows_taken c) → From j c
    unfolding rows_taken
    next-from k j e o none a = tt
    next-from k j e o (element q tag inner after) a = let z = further k k q (rows_taken after) o (omega arith) a in omega (arith, z, e)

    -- past a row that comes once come later rows alone, at any depth
    past : (k : ℕ) → repeated (get_or rows k 0) ≡ false → (h : ℕ) (c : Trees A) (j : ℕ) → k ≤ j → ComesAfter rows j (rows_taken c) → InOrder rows (rows_taken c)
        → Stand rows h (rows_taken c) → EachConforms rows c → Within (λ q. (k < q) × (q < length rows)) c
    unfolding rows_taken Stand InOrder EachConforms Within
    past k o h none j b a i s each = tt
    past k o h (element q tag inner after) j b a i s each =
        let g = further k j q (rows_taken after) o b a in (
          (g, s.0),
          beyond k q inner (omega (arith, g)) s.0 each.0.stand each.1,
          past k o h after q (omega (arith, g)) i.0 i.1 s.2 each.2,
        )

    pub record FirstThree (c : Trees A) : Type 0 where
      pub first : A
      pub second : A
      pub third : A
      pub rest : Trees A
      pub is : c ≡ element (series_at L + 1) first none (element (series_at L + 2) second none (element (series_at L + 3) third none rest))
      pub later : Within (λ q. (series_at L + 3 < q) × (q < length rows)) rest

    module _ (deep : series_at L + 3 < p) (one : required (get_or rows (series_at L + 1) 0) ≡ true) (two : required (get_or rows (series_at L + 2) 0) ≡ true)
        (three : required (get_or rows (series_at L + 3) 0) ≡ true) where
      pub first-three : (c : Trees A) → Fits rows (series_at L) (rows_taken c) → EachConforms rows c → FirstThree c
      first-three c f conform =
          let z = L.size in
          let r = series_at L in
          let must : (k : ℕ) → r < k → k < p → required (get_or rows k 0) ≡ true → Among k (rows_taken c) =
          λ k a b m. f.complete k (omega (arith, z, b)) (in-series-row k a (omega (arith, b))) m in
          let in1 : r + 1 < p = omega (arith, deep) in
          let in2 : r + 2 < p = omega (arith, deep) in
          let a = lead (r + 1) (omega arith) in1 c (stand-from c f.stand) f.stand f.ordered conform (must (r + 1) (omega arith) in1 one) in
          let b =
          lead (r + 2) (omega arith) in2 a.after (next-from (r + 1) (r + 2) (omega arith) (value-once (r + 1) (omega arith) in1) a.after a.comes) a.stands
          a.ordered a.each (a.others (r + 2) (omega arith) (must (r + 2) (omega arith) in2 two)) in
          let d =
          lead (r + 3) (omega arith) deep b.after (next-from (r + 2) (r + 3) (omega arith) (value-once (r + 2) (omega arith) in2) b.after b.comes) b.stands
          b.ordered b.each
          (b.others (r + 3) (omega arith) (a.others (r + 3) (omega arith) (must (r + 3) (omega arith) deep three))) in
          record {
            first = a.tag;
            second = b.tag;
            third = d.tag;
            rest = d.after;
            is =
                a.is
                ∙ ap (λ i. element (r + 1) a.tag none i) (b.is ∙ ap (λ i. element (r + 2) b.tag none i) d.is);
            later = past (r + 3) (value-once (r + 3) (omega arith) deep) r d.after (r + 3) (omega arith) d.comes d.ordered d.stands d.each;
          }

    -- series side by side
    unfoldable pub AllSeries : Trees A → Type 0
    AllSeries none = Unit {0}
    AllSeries (element q tag inner after) = (q ≡ series_at L) × SeriesShape inner × AllSeries after

    inner-shape : (inner : Trees A) → Fits rows (series_at L) (rows_taken inner) → EachConforms rows inner → SeriesShape inner
    inner-shape inner f each =
        let s = L.size in
        let w = L.wide in
        series-shape inner f.stand f.ordered each (f.complete p (omega (arith, s)) (in-series-row p (omega (arith, w)) (omega arith)) L.must-period)

    series-follow : (c : Trees A) → ComesAfter rows (series_at L) (rows_taken c) → Stand rows 1 (rows_taken c) → InOrder rows (rows_taken c) → EachConforms rows c → AllSeries c
    unfolding Stand rows_taken ComesAfter InOrder EachConforms AllSeries
    series-follow none f s o each = tt
    series-follow (element q tag inner after) f s o each =
        let u = under-root q s.0 s.1 in
        let e : q ≡ series_at L = ⊎_elim (λ (g : (series_at L) < q). absurd (omega (arith, g, u.1))) (λ g. g.0) f in (
          e,
          inner-shape inner (subst (λ (i : ℕ). Fits rows i (rows_taken inner)) e each.0) each.1,
          series-follow after (subst (λ (i : ℕ). ComesAfter rows i (rows_taken after)) e o.0) s.2 o.1 each.2,
        )

    -- ---- the root

    -- in the root: values, and then series
    pub record RootShape (c : Trees A) : Type 0 where
      pub head : Trees A
      pub tail : Trees A
      pub is : c ≡ beside head tail
      pub heads : Within (λ q. (1 < q) × (q < series_at L)) head
      pub all : AllSeries tail

    root-shape : (c : Trees A) → Stand rows 1 (rows_taken c) → InOrder rows (rows_taken c) → EachConforms rows c → RootShape c
    unfolding Stand rows_taken ComesAfter InOrder EachConforms Within beside AllSeries
    root-shape none s o each = record { head = none; tail = none; is = refl; heads = tt; all = tt }
    root-shape (element q tag inner after) s o each =
        ⊎_elim
        (λ (y : (q ≡ series_at L) × _).
        record {
          head = none;
          tail = element q tag inner after;
          is = refl;
          heads = tt;
          all = (
            y.0,
            inner-shape inner (subst (λ (i : ℕ). Fits rows i (rows_taken inner)) y.0 each.0) each.1,
            series-follow after (subst (λ (i : ℕ). ComesAfter rows i (rows_taken after)) y.0 o.0) s.2 o.1 each.2,
          );
        })
        (λ (y : (q ≡ series_at L → ⊥) × _).
        let u = under-root q s.0 s.1 in
        let w = L.wide in
        let h : q < series_at L = let z = up q u.1 (λ e. y.0 (sym e)) in omega (arith, z) in
        let t = root-shape after s.2 o.1 each.2 in
        let n = value-bare q inner u.0 y.0 (omega (arith, h, w)) each.0.stand in
        record {
          head = element q tag none t.head;
          tail = t.tail;
          is = ap (λ i. element q tag i after) n ∙ ap (λ a. element q tag none a) t.is;
          heads = ((u.0, h), tt, t.heads);
          all = t.all;
        })
        (eqb-cases q (series_at L))

    -- ---- the document

    -- in the document: one root
    pub record DocumentShape (c : Trees A) : Type 0 where
      pub tag : A
      pub inner : Trees A
      pub is : c ≡ element 1 tag inner none
      pub shape : RootShape inner

    document-of : (c : Trees A) → Stand rows 0 (rows_taken c) → InOrder rows (rows_taken c) → EachConforms rows c → Among 1 (rows_taken c) → DocumentShape c
    unfolding Stand rows_taken InOrder EachConforms Among
    document-of none s o each m = absurd m
    document-of (element q tag inner after) s o each m =
        let e = under-document q s.0 s.1 in
        let f : Fits rows 1 (rows_taken inner) = subst (λ (i : ℕ). Fits rows i (rows_taken inner)) e each.0 in
        let n = alone 1 0 after root-once (λ r l d. not-past 0 r (omega arith) l d) (subst (λ (i : ℕ). ComesAfter rows i (rows_taken after)) e o.0) s.2 in
        record { tag = tag; inner = inner; is = element-is e refl n; shape = root-shape inner f.stand f.ordered each.1 }

    pub document-shape : (c : Trees A) → Conforms rows 0 c → DocumentShape c
    document-shape c k =
        let z = L.size in
        document-of c k.fits.stand k.fits.ordered k.each
        (k.fits.complete 1 (omega (arith, z)) (L.stands 1 (omega arith) (omega (arith, z))) L.must-root)

  -- ---- a row that comes once

  -- any row but k
  abbrev Other : ℕ → ℕ → Type 0
  Other k q = (q < length rows) × (q ≡ k → ⊥)

  module _ {A : Type 0} (k : ℕ) where
    -- row k does not stand in a row after its own
    pub elsewhere : (c : Trees A) (h : ℕ) → h < length rows → parent_of (get_or rows k 0) < h → Stand rows h (rows_taken c) → EachConforms rows c → Within (Other k) c
    unfolding rows_taken Stand EachConforms Within
    elsewhere none h l b s each = tt
    elsewhere (element q x inner after) h l b s each =
        let m = later h q l s.0 s.1 in (
          (s.0, λ e. let d : parent_of (get_or rows k 0) ≡ h = ap (λ (i : ℕ). parent_of (get_or rows i 0)) (sym e) ∙ s.1 in omega (arith, d, b)),
          elsewhere inner q s.0 (omega (arith, m, b)) each.0.stand each.1,
          elsewhere after h l b s.2 each.2,
        )

    module _ (o : repeated (get_or rows k 0) ≡ false) (u : parent_of (get_or rows k 0) < length rows) where
      -- nor after it, where it comes once
      not-again : (c : Trees A) (r : ℕ) → k ≤ r → ComesAfter rows r (rows_taken c) → InOrder rows (rows_taken c)
          → Stand rows (parent_of (get_or rows k 0)) (rows_taken c) → EachConforms rows c → Within (Other k) c
      unfolding rows_taken Stand EachConforms InOrder Within
      not-again none r b a i s each = tt
      not-again (element q x inner after) r b a i s each =
          let g = further k r q (rows_taken after) o b a in
          let m = later (parent_of (get_or rows k 0)) q u s.0 s.1 in (
            (s.0, λ e. omega (arith, e, g)),
            elsewhere inner q s.0 m each.0.stand each.1,
            not-again after q (omega (arith, g)) i.0 i.1 s.2 each.2,
          )

      -- the element of a role that row k alone has, among those that stand where k stands
      pub comes-once : (role : ℕ) → ((q : ℕ) → q < length rows → role_of (get_or rows q 0) ≡ role → q ≡ k) → role_of (get_or rows k 0) ≡ role → (c : Trees A)
          → Stand rows (parent_of (get_or rows k 0)) (rows_taken c) → InOrder rows (rows_taken c) → EachConforms rows c → Among k (rows_taken c)
          → (s : A) × (those (has_role role) rows c ≡ s ∷ [])
      unfolding rows_taken Stand EachConforms InOrder Among
      comes-once role only r none s i each m = absurd m
      comes-once role only r (element q x inner after) s i each m =
          let gone : (c : Trees A) → Within (Other k) c → those (has_role role) rows c ≡ [] =
          λ c h. no-role rows role c (within_more (λ j d e. d.1 (only j d.0 e)) c h) in
          let lat = later (parent_of (get_or rows k 0)) q u s.0 s.1 in
          let inside = gone inner (elsewhere inner q s.0 lat each.0.stand each.1) in
          ⊎_elim
          (λ e.
          let t : eqb (role_of (get_or rows q 0)) role ≡ true = eq-eqb (role_of (get_or rows q 0)) role (ap (λ (j : ℕ). role_of (get_or rows j 0)) e.0 ∙ r) in (
            x,
            those-of rows (has_role role) q x inner after t inside
                ∙ ap (λ (l : List A). x ∷ l) (gone after (not-again after q (omega (arith, e.0)) i.0 i.1 s.2 each.2)),
          ))
          (λ e.
          let n : eqb (role_of (get_or rows q 0)) role ≡ false = ne_eqb (role_of (get_or rows q 0)) role (λ d. e.0 (only q s.0 d)) in
          let d = comes-once role only r after s.2 i.1 each.2 (⊎_elim (λ (f : k ≡ q). absurd (e.0 (sym f))) (λ f. f) m) in
          (d.0, those-of rows (has_role role) q x inner after n inside ∙ d.1))
          (eqb-cases q k)
