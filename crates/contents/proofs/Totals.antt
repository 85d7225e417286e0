-- Tables that show a legal content are not refused by totals, and their totals are those of the content. Assumes nothing.
use Prim.Native.Nat.{ℕ, zero, suc, ◌+◌, ◌-◌, ◌*◌, ◌≤◌, ◌<◌}
use mathlib.Core.Path.{◌≡◌, refl, sym, ap, subst, ◌∙◌}
use mathlib.Core.List.{List, [], ◌∷◌, ◌++◌, map, append_assoc}
use mathlib.Core.Bool.{Bool, true, false, cond, ◌&&◌, and-eq-true_iff}
use mathlib.Core.Logic.{◌⊎◌, inl, inr, ⊎_elim}
use native.Mathlib.Omega.{arith}
use lib.Dec.{eqb, leb, ltb}
use lib.IntN.{ℤ, pos}
use lib.ListN.{length, get_or, take, drop, length-map, length-append, get_or-append}
use lib.Seq.{get_or-append-add, get_or-take, get_or-drop, ext_get_or}
use borrow.Author.Tests.{eq-eqb, ne_eqb, le-leb, lt-ltb, leb-true, ltb-true, ltb-false, eqb-true}
use Rattle.lists.proofs.Cases.{bool_cases, eqb-cases, never, zero-not-one, up}
use Rattle.structure.specs.Rows.{parent_of}
use Rattle.columns.specs.Columns.{role_of}
use Rattle.rules.specs.Rules.{position_fits}
use Rattle.guideline.specs.Kinds.{kind_at, kind_one, kind_two, kind_three, has_enough, within_most}
use Rattle.guideline.specs.Rows.{rows_of}
use Rattle.series.specs.Row.{field_at, cells_of, room_for}
use Rattle.series.specs.declared.Field.TheVariants.{FirstRow, Count}
use Rattle.reader.specs.Reading.{Tables}
use Rattle.trees.specs.Trees.{Trees, none, element, rows_taken, Stand, Fits, EachConforms, Conforms}
use Rattle.totals.specs.Rules.{Handed, handed, count_allowed, pos_allowed, size_allowed, row_allowed, all_below, end_row, due_row, own_of, series_allowed, is_allowed}
use Rattle.totals.specs.Totals.{values_from, last_quarter, rows_total, series_total, each_total}
use Rattle.totals.proofs.Below.{all_from}
use Rattle.totals.proofs.Facts.{own-length}
use Rattle.contents.specs.Said.{TagSaid, Absent}
use Rattle.contents.specs.Legal.{has_role, those, in_each, period_of, quarters_of, position_of, in_turn, count_fits, SeriesFits, All, Legal}
use Rattle.contents.specs.Shown.{amount_in, sum, each_series, interval_counts, RowShows, Shows}
use Rattle.contents.specs.Totals.{content_total, content_totals}
use Rattle.contents.proofs.Lists.{all_join, all-change}
use Rattle.contents.proofs.Laid.{Layout, Laid, Known, series_at, laid}
use Rattle.contents.proofs.Elements.{own, mapped-parts, length-element, Within, within_more, in-of, none_in}
use Rattle.contents.proofs.Shape.{later, under-document, under-root, leaf, in-interval-row, holds-two}
use Rattle.contents.proofs.Amounts.{size_ok}
use Rattle.contents.proofs.Covered.{any-kind, period-ok, kind-totals}

-- ---- a law of each of a list, at an index

all-at : {A : Type 0} (P : A → Type 0) (d : A) (l : List A) (i : ℕ) → All P l → i < length l → P (get_or l i d)
unfolding All
all-at P d [] i a h = absurd (omega arith)
all-at P d (x ∷ l) zero a h = a.0
all-at P d (x ∷ l) (suc i) a h = all-at P d l i a.1 (omega arith)

map_at : {A B : Type 0} (f : A → B) (d : A) (e : B) (l : List A) (i : ℕ) → i < length l → get_or (map f l) i e ≡ f (get_or l i d)
map_at f d e [] i h = absurd (omega arith)
map_at f d e (x ∷ l) zero h = refl
map_at f d e (x ∷ l) (suc i) h = map_at f d e l i (omega arith)

sum-next : (l : List ℕ) (i : ℕ) → i < length l → sum (take (suc i) l) ≡ sum (take i l) + get_or l i 0
unfolding sum
sum-next [] i h = absurd (omega arith)
sum-next (n ∷ l) zero h = omega arith
sum-next (n ∷ l) (suc i) h = omega (arith, sum-next l i (omega arith))

sum-most : (l : List ℕ) (i : ℕ) → sum (take i l) ≤ sum l
unfolding sum
sum-most l zero = omega arith
sum-most [] (suc i) = omega arith
sum-most (n ∷ l) (suc i) = omega (arith, sum-most l i)

-- ---- what stands in the series, one after the other

unfoldable in_turns : {B : Type 0} → (Trees TagSaid → List B) → List (Trees TagSaid) → List B
in_turns g [] = []
in_turns g (s ∷ ss) = g s ++ in_turns g ss

maps-alike : (F G : Trees TagSaid → ℕ) (ss : List (Trees TagSaid)) → All (λ (s : Trees TagSaid). F s ≡ G s) ss → map F ss ≡ map G ss
unfolding All
maps-alike F G [] a = refl
maps-alike F G (s ∷ ss) a = rw (a.0, maps-alike F G ss a.1) refl

module _ {B : Type 0} (g : Trees TagSaid → List B) where
  turns-join : (a b : List (Trees TagSaid)) → in_turns g (a ++ b) ≡ in_turns g a ++ in_turns g b
  unfolding in_turns
  turns-join [] b = refl
  turns-join (s ∷ a) b = ap (λ (l : List B). g s ++ l) (turns-join a b) ∙ sym (append_assoc (g s) (in_turns g a) (in_turns g b))

  turns-long : (ss : List (Trees TagSaid)) → length (in_turns g ss) ≡ sum (map (λ (s : Trees TagSaid). length (g s)) ss)
  unfolding in_turns sum
  turns-long [] = refl
  turns-long (s ∷ ss) = omega (arith, length-append (g s) (in_turns g ss), turns-long ss)

  part_at : (d : B) (ss : List (Trees TagSaid)) (i j : ℕ) → i < length ss → j < length (g (get_or ss i none))
      → get_or (in_turns g ss) (sum (take i (map (λ (s : Trees TagSaid). length (g s)) ss)) + j) d ≡ get_or (g (get_or ss i none)) j d
  unfolding in_turns sum
  part_at d [] i j h k = absurd (omega arith)
  part_at d (s ∷ ss) zero j h k = let e : 0 + j ≡ j = omega arith in rw e (get_or-append (g s) (in_turns g ss) d j k)
  part_at d (s ∷ ss) (suc i) j h k =
      let n = sum (take i (map (λ (s : Trees TagSaid). length (g s)) ss)) in
      let e : length (g s) + n + j ≡ length (g s) + (n + j) = omega arith in
      rw e (get_or-append-add (g s) (in_turns g ss) (n + j) d ∙ part_at d ss i j (omega arith) k)

module _ (kind : ℕ) (rows : List ℕ) (p : ℕ) (L : Layout rows p) where
  -- rows below a row are later ones
  below : (c : Trees TagSaid) (h : ℕ) → h < length rows → Stand rows h (rows_taken c) → EachConforms rows c → Within (λ q. (h < q) × (q < length rows)) c
  unfolding Stand rows_taken EachConforms Within
  below none h l s each = tt
  below (element q x inner after) h l s each =
      let k = later rows p L h q l s.0 s.1 in (
        (k, s.0),
        within_more (λ q r. (omega (arith, r.0, k), r.1)) inner (below inner q s.0 each.0.stand each.1),
        below after h l s.2 each.2,
      )

  -- ---- the three lists of a series are as long as each other

  pub Alike : Trees TagSaid → Type 0
  Alike c = (length (those (has_role 9) rows c) ≡ length (those (has_role 4) rows c)) × (length (those (has_role 10) rows c) ≡ length (those (has_role 4) rows c))

  alike : (c : Trees TagSaid) (h : ℕ) → h < length rows → (h ≡ p + 3 → ⊥) → Stand rows h (rows_taken c) → EachConforms rows c → Alike c
  unfolding Alike those Stand rows_taken EachConforms
  alike none h l n s each = (refl, refl)
  alike (element q x inner after) h l n s each =
      let w = get_or rows q 0 in
      let a = alike after h l n s.2 each.2 in
      let l₄ = length-element rows 4 q x inner after in
      let l₉ = length-element rows 9 q x inner after in
      let l₁₀ = length-element rows 10 q x inner after in
      ⊎_elim
      (λ (y : (q ≡ p + 3) × _).
      let t = holds-two rows p L inner (rw y.0 at each.0) each.1 in
      let z = L.size in
      let r : role_of w ≡ 4 = rw y.0 L.interval in
      let u : (length (those (has_role 4) rows inner) ≡ 0) × (length (those (has_role 9) rows inner) ≡ 1) × (length (those (has_role 10) rows inner) ≡ 1) =
      rw t.2 (simp (L.pos, L.qty) (refl, refl, refl)) in
      let o₄ : ◌≡◌ {A = ℕ} (cond (eqb (role_of w) 4) 1 0) 1 = rw r refl in
      let o₉ : ◌≡◌ {A = ℕ} (cond (eqb (role_of w) 9) 1 0) 0 = rw r refl in
      let o₁₀ : ◌≡◌ {A = ℕ} (cond (eqb (role_of w) 10) 1 0) 0 = rw r refl in
      (omega (arith, l₄, l₉, o₄, o₉, u.0, u.1, a.0), omega (arith, l₄, l₁₀, o₄, o₁₀, u.0, u.2, a.1)))
      (λ (y : (q ≡ p + 3 → ⊥) × _).
      let b = alike inner q s.0 y.0 each.0.stand each.1 in
      let within : p + 3 < q → ⊥ = λ g. n (sym s.1 ∙ in-interval-row rows p L q g s.0) in
      let o₄ : ◌≡◌ {A = ℕ} (cond (eqb (role_of w) 4) 1 0) 0 = rw (ne_eqb (role_of w) 4 (λ r. y.0 (L.only-interval q s.0 r))) refl in
      let o₉ : ◌≡◌ {A = ℕ} (cond (eqb (role_of w) 9) 1 0) 0 = rw (ne_eqb (role_of w) 9 (λ r. let f = L.only-pos q s.0 r in within (omega (arith, f)))) refl in
      let o₁₀ : ◌≡◌ {A = ℕ} (cond (eqb (role_of w) 10) 1 0) 0 = rw (ne_eqb (role_of w) 10 (λ r. let f = L.only-qty q s.0 r in within (omega (arith, f)))) refl in
      (omega (arith, l₄, l₉, o₄, o₉, a.0, b.0), omega (arith, l₄, l₁₀, o₄, o₁₀, a.1, b.1)))
      (eqb-cases q (p + 3))

  series-alike : (c : Trees TagSaid) (h : ℕ) → Stand rows h (rows_taken c) → EachConforms rows c → All Alike (in_each (has_role 2) rows c)
  unfolding in_each Stand rows_taken EachConforms All
  series-alike none h s each = tt
  series-alike (element q x inner after) h s each =
      let m = all_join Alike (in_each (has_role 2) rows inner) (in_each (has_role 2) rows after) (series-alike inner q each.0.stand each.1) (series-alike after h s.2 each.2) in
      let z = L.size in
      let v = L.wide in
      ⊎_elim
      (λ y.
      let e = L.only-series q s.0 y.0 in
      rw y.1 (alike inner q s.0 (λ f. omega (arith, e, f, v)) each.0.stand each.1, m))
      (λ y. rw y.1 m)
      (eqb-cases (role_of (get_or rows q 0)) 2)

  -- ---- the lists of the content are those of its series

  module _ {B : Type 0} (n : ℕ) (f : TagSaid → B) (later-role : (q : ℕ) → q < length rows → role_of (get_or rows q 0) ≡ n → series_at L < q) where
    abbrev list_of : Trees TagSaid → List B
    list_of s = map f (those (has_role n) rows s)

    -- under the document and the root there are values, which hold nothing, and series
    stands-before : (c : Trees TagSaid) (h q : ℕ) (x : TagSaid) (inner after : Trees TagSaid) → c ≡ element q x inner after → h < length rows → h < series_at L
        → Stand rows h (rows_taken c) → q ≤ series_at L
    unfolding Stand rows_taken
    stands-before c h q x inner after e l k s =
        let t : Stand rows h (q ∷ rows_taken after) = rw e at s in
        let v = L.wide in
        ⊎_elim
        (λ (y : (h ≡ 0) × _). let u = under-document rows p L q t.0 (t.1 ∙ y.0) in omega (arith, u))
        (λ (y : (h ≡ 0 → ⊥) × _).
        ⊎_elim
        (λ (z : (h ≡ 1) × _). (under-root rows p L q t.0 (t.1 ∙ z.0)).1)
        (λ (z : (h ≡ 1 → ⊥) × _).
        let b = leaf rows p L h c l y.0 z.0 (λ f. omega (arith, f, k)) (λ f. omega (arith, f, k, v)) (λ f. omega (arith, f, k, v)) s in
        absurd (not_none (sym b ∙ e)))
        (eqb-cases h 1))
        (eqb-cases h 0)
      where
        not_none : none ≡ element q x inner after → ⊥
        not_none e = zero-not-one (cc)

    in-series : (c : Trees TagSaid) (h : ℕ) → h < length rows → h < series_at L → Stand rows h (rows_taken c) → EachConforms rows c
        → list_of c ≡ in_turns list_of (in_each (has_role 2) rows c)
    unfolding those in_each in_turns Stand rows_taken EachConforms
    in-series none h l k s each = refl
    in-series (element q x inner after) h l k s each =
        let w = get_or rows q 0 in
        let more = in-series after h l k s.2 each.2 in
        let m = stands-before (element q x inner after) h q x inner after refl l k s in
        let not-n : eqb (role_of w) n ≡ false = ne_eqb (role_of w) n (λ r. let f = later-role q s.0 r in omega (arith, f, m)) in
        let parts : list_of (element q x inner after) ≡ list_of inner ++ list_of after =
        mapped-parts rows f (has_role n) q x inner after ∙ ap (λ (t : Bool). map f (own t x) ++ (list_of inner ++ list_of after)) not-n in
        ⊎_elim
        (λ (y : (q ≡ series_at L) × _).
        let two : eqb (role_of w) 2 ≡ true = eq-eqb (role_of w) 2 (rw y.0 L.series) in
        let none_here : in_each (has_role 2) rows inner ≡ [] =
        none_in rows (has_role 2) inner
        (within_more (λ r u. ne_eqb (role_of (get_or rows r 0)) 2 (λ z. let o = L.only-series r u.1 z in omega (arith, o, u.0, y.0))) inner
        (below inner q s.0 each.0.stand each.1)) in
        let e = in-of rows (has_role 2) q x inner after two none_here in
        parts ∙ ap (λ (b : List B). list_of inner ++ b) more ∙ sym (ap (in_turns list_of) e))
        (λ (y : (q ≡ series_at L → ⊥) × _).
        let not-two : eqb (role_of w) 2 ≡ false = ne_eqb (role_of w) 2 (λ r. y.0 (L.only-series q s.0 r)) in
        let u : q < series_at L = let z = y.0 in let o = up q m (λ e. z (sym e)) in omega (arith, o) in
        let deeper = in-series inner q s.0 u each.0.stand each.1 in
        let e = in-of rows (has_role 2) q x inner after not-two refl in
        parts ∙ ap (λ (b : List B). b ++ list_of after) deeper ∙ ap (λ (b : List B). in_turns list_of (in_each (has_role 2) rows inner) ++ b) more
        ∙ sym (turns-join list_of (in_each (has_role 2) rows inner) (in_each (has_role 2) rows after)) ∙ sym (ap (in_turns list_of) e))
        (eqb-cases q (series_at L))

-- ---- positions

before : ℕ → List ℕ → ℕ → ℕ
before last ps zero = last
before last ps (suc k) = get_or ps k 0

turn_at : (kind n last : ℕ) (ps : List ℕ) (k : ℕ) → in_turn kind n last ps ≡ true → k < length ps → position_fits kind n (before last ps k) (get_or ps k 0) ≡ true
unfolding in_turn before
turn_at kind n last [] k e h = absurd (omega arith)
turn_at kind n last (p ∷ ps) zero e h = ((and-eq-true_iff (position_fits kind n last p) _).0 e).0
turn_at kind n last (p ∷ ps) (suc zero) e h = turn_at kind n p ps zero ((and-eq-true_iff (position_fits kind n last p) _).0 e).1 (omega arith)
turn_at kind n last (p ∷ ps) (suc (suc k)) e h = turn_at kind n p ps (suc k) ((and-eq-true_iff (position_fits kind n last p) _).0 e).1 (omega arith)

counted_is : (kind : ℕ) → Known kind → (kind_at kind).counted ≡ cond (eqb kind 2) false true
unfolding kind_at kind_one kind_two kind_three
counted_is kind known = any-kind (λ (k : ℕ). (kind_at k).counted ≡ cond (eqb k 2) false true) refl refl refl kind known

module _ (kind n : ℕ) (ps : List ℕ) (known : Known kind) (turn : in_turn kind n 0 ps ≡ true) where
  fits-at : (k : ℕ) → k < length ps
      → (get_or ps k 0 ≤ n)
      × (cond (kind_at kind).counted (eqb (get_or ps k 0) (before 0 ps k + 1)) (cond (eqb (before 0 ps k) 0) (eqb (get_or ps k 0) 1) (ltb (before 0 ps k) (get_or ps k 0))) ≡ true)
  unfolding position_fits
  fits-at k h =
      let e = turn_at kind n 0 ps k turn h in
      ⊎_elim
      (λ (y : ltb n (get_or ps k 0) ≡ true). let z : false ≡ true = rw y at e in never z)
      (λ (y : ltb n (get_or ps k 0) ≡ false). (ltb-false _ _ y, rw y at e))
      (bool_cases (ltb n (get_or ps k 0)))

  counted : (kind_at kind).counted ≡ true → (k : ℕ) → k < length ps → get_or ps k 0 ≡ k + 1
  unfolding before
  counted c zero h = let a = eqb-true (get_or ps 0 0) (before 0 ps 0 + 1) (rw c at (fits-at 0 h).1) in omega (arith, a)
  counted c (suc k) h =
      let a = eqb-true (get_or ps (suc k) 0) (before 0 ps (suc k) + 1) (rw c at (fits-at (suc k) h).1) in
      let b = counted c k (omega arith) in
      omega (arith, a, b)

  rising : (kind_at kind).counted ≡ false → (k : ℕ) → k < length ps
      → (1 ≤ get_or ps k 0) × (cond (eqb (before 0 ps k) 0) (eqb (get_or ps k 0) 1) (ltb (before 0 ps k) (get_or ps k 0)) ≡ true)
  rising c k h =
      let a : cond (eqb (before 0 ps k) 0) (eqb (get_or ps k 0) 1) (ltb (before 0 ps k) (get_or ps k 0)) ≡ true = rw c at (fits-at k h).1 in (
        ⊎_elim
            (λ y. let b = eqb-true (get_or ps k 0) 1 (rw y at a) in omega (arith, b))
            (λ y. let b = ltb-true (before 0 ps k) (get_or ps k 0) (rw y at a) in omega (arith, b))
            (bool_cases (eqb (before 0 ps k) 0)),
        a,
      )

  in_two : (k : ℕ) → k < length ps → (kind_at kind).counted ≡ false → cond (eqb k 0) (eqb (get_or ps k 0) 1) (ltb (get_or ps (k - 1) 0) (get_or ps k 0)) ≡ true
  unfolding before
  in_two zero h f = (rising f zero h).1
  in_two (suc k) h f =
      let m : suc k - 1 ≡ k = omega arith in
      let b = (rising f k (omega arith)).0 in
      let z : eqb (get_or ps k 0) 0 ≡ false = ne_eqb (get_or ps k 0) 0 (λ e. omega (arith, e, b)) in
      let u : eqb (suc k) 0 ≡ false = ne_eqb (suc k) 0 (λ e. omega (arith, e)) in
      rw (u, m) (rw z at (rising f (suc k) h).1)

  pos-ok : (k : ℕ) → k < length ps → pos_allowed kind n ps k ≡ true
  unfolding pos_allowed
  pos-ok k h =
      let c = counted_is kind known in
      let a = le-leb _ _ (fits-at k h).0 in
      ⊎_elim
      (λ (y : eqb kind 2 ≡ true).
      let f : (kind_at kind).counted ≡ false = c ∙ ap (λ (b : Bool). cond b false true) y in
      rw (a, y) (in_two k h f))
      (λ (y : eqb kind 2 ≡ false).
      let t : (kind_at kind).counted ≡ true = c ∙ ap (λ (b : Bool). cond b false true) y in
      rw (a, y) (eq-eqb _ _ (counted t k h)))
      (bool_cases (eqb kind 2))

module _ (n m : ℕ) where
  count-one : count_fits 1 n m ≡ true → count_allowed 1 n m ≡ true
  unfolding count_fits count_allowed has_enough within_most kind_at kind_one
  count-one e = ((and-eq-true_iff (leb 92 m && leb m 100) (eqb m n)).0 e).1

  count-two : count_fits 2 n m ≡ true → count_allowed 2 n m ≡ true
  unfolding count_fits count_allowed has_enough within_most kind_at kind_two
  count-two e = let g = ((and-eq-true_iff (leb 1 m) true).0 ((and-eq-true_iff (leb 1 m && true) true).0 e).0).0 in rw g refl

  count-three : count_fits 3 n m ≡ true → count_allowed 3 n m ≡ true
  unfolding count_fits count_allowed has_enough within_most kind_at kind_three
  count-three e =
      let g = (and-eq-true_iff (leb 1 m) (leb m 100)).0 ((and-eq-true_iff (leb 1 m && leb m 100) true).0 e).0 in
      rw (g.0, g.1) refl

count-ok : (kind n m : ℕ) → Known kind → count_fits kind n m ≡ true → count_allowed kind n m ≡ true
count-ok kind n m known = any-kind (λ (k : ℕ). count_fits k n m ≡ true → count_allowed k n m ≡ true) (count-one n m) (count-two n m) (count-three n m) kind known

-- ---- tables that show a legal content

each_long : (rows : List ℕ) (c : Trees TagSaid) → length (in_each (has_role 2) rows c) ≡ length (those (has_role 2) rows c)
unfolding in_each those
each_long rows none = refl
each_long rows (element q x inner after) =
    let a = each_long rows inner in
    let b = each_long rows after in
    let u = length-append (in_each (has_role 2) rows inner) (in_each (has_role 2) rows after) in
    let v = length-append (those (has_role 2) rows inner) (those (has_role 2) rows after) in
    ⊎_elim (λ y. rw y (omega (arith, a, b, u, v))) (λ y. rw y (omega (arith, a, b, u, v))) (bool_cases (eqb (role_of (get_or rows q 0)) 2))

values-map : (f : ℕ → ℤ) (F : Trees TagSaid → ℤ) (ss : List (Trees TagSaid)) (k : ℕ) → ((i : ℕ) → i < length ss → f (k + i) ≡ F (get_or ss i none))
    → values_from f k (length ss) ≡ map F ss
unfolding values_from
values-map f F [] k h = refl
values-map f F (s ∷ ss) k h =
    let z : k + 0 ≡ k = omega arith in
    let a : f k ≡ F s = rw z at (h 0 (omega arith)) in
    let b = values-map f F ss (suc k) (λ i l. let e : suc k + i ≡ k + suc i = omega arith in rw e (h (suc i) (omega (arith, l)))) in
    rw (a, b) refl

own-cell : {B : Type 0} (series : List ℕ) (i : ℕ) (l : List B) (d : B) (j : ℕ) → j < field_at series i Count
    → get_or (own_of series i l) j d ≡ get_or l (field_at series i FirstRow + j) d
unfolding own_of
own-cell series i l d j y = get_or-take _ (drop (field_at series i FirstRow) l) j d y ∙ get_or-drop _ l j d

module _ (kind : ℕ) (c : Trees TagSaid) (legal : Legal kind c) (doc : List ℕ) (t : Tables) (shows : Shows doc t (rows_of kind) c)
    (room : length (those (has_role 2) (rows_of kind) c) ≤ room_for (length t.series)) (in_p : length (those (has_role 4) (rows_of kind) c) ≤ length t.positions)
    (in-a : length (those (has_role 4) (rows_of kind) c) ≤ length t.amounts) where
  abbrev rows : List ℕ
  rows = rows_of kind

  abbrev quarters : ℕ
  quarters = quarters_of (period_of rows c)

  abbrev count : ℕ
  count = length (those (has_role 2) rows c)

  abbrev shown_tables : Handed
  shown_tables = handed kind quarters count t.series t.positions t.amounts

  abbrev ss : List (Trees TagSaid)
  ss = in_each (has_role 2) rows c

  abbrev lay : Laid kind
  lay = laid kind legal.known

  abbrev p : ℕ
  p = lay.period

  abbrev L : Layout rows p
  L = lay.layout

  abbrev counts : List ℕ
  counts = map (λ (s : Trees TagSaid). length (those (has_role 4) rows s)) ss

  all_alike : All (Alike kind rows p L) ss
  all_alike = series-alike kind rows p L c 0 legal.conforms.fits.stand legal.conforms.each

  long : length ss ≡ count
  long = each_long rows c

  whole : {B : Type 0} (n : ℕ) (f : TagSaid → B) → ((q : ℕ) → q < length rows → role_of (get_or rows q 0) ≡ n → series_at L < q)
      → map f (those (has_role n) rows c) ≡ in_turns (λ (s : Trees TagSaid). map f (those (has_role n) rows s)) ss
  whole n f h =
      let z = L.size in
      in-series kind rows p L n f h c 0 (omega (arith, z)) (omega arith) legal.conforms.fits.stand legal.conforms.each

  interval-late : (q : ℕ) → q < length rows → role_of (get_or rows q 0) ≡ 4 → series_at L < q
  interval-late q l r = let e = L.only-interval q l r in let w = L.wide in omega (arith, e, w)

  pos-late : (q : ℕ) → q < length rows → role_of (get_or rows q 0) ≡ 9 → series_at L < q
  pos-late q l r = let e = L.only-pos q l r in let w = L.wide in omega (arith, e, w)

  qty-late : (q : ℕ) → q < length rows → role_of (get_or rows q 0) ≡ 10 → series_at L < q
  qty-late q l r = let e = L.only-qty q l r in let w = L.wide in omega (arith, e, w)

  -- as many intervals in all as in the series
  all-counted : sum counts ≡ length (those (has_role 4) rows c)
  all-counted =
      sym
      (sym (length-map (those (has_role 4) rows c) (λ (x : TagSaid). x)) ∙ ap length (whole 4 (λ (x : TagSaid). x) interval-late)
      ∙ turns-long (λ (s : Trees TagSaid). map (λ (x : TagSaid). x) (those (has_role 4) rows s)) ss
      ∙ ap sum (maps-alike _ _ ss (all-change (Alike kind rows p L) _ ss (λ s a. length-map (those (has_role 4) rows s) (λ (x : TagSaid). x)) all_alike)))

  module _ (i : ℕ) (h : i < count) where
    abbrev s : Trees TagSaid
    s = get_or ss i none

    in-ss : i < length ss
    in-ss = let e = long in omega (arith, e, h)

    shown : RowShows doc t.series rows i s (sum (take i counts))
    unfolding each_series interval_counts
    shown = shows.series i h

    ends : end_row t.series i ≡ sum (take (suc i) counts)
    unfolding end_row
    ends =
        let a = shown.begins in
        let b = shown.count in
        let k : get_or counts i 0 ≡ length (those (has_role 4) rows s) = map_at _ none 0 ss i in-ss in
        let u = in-ss in
        let l = length-map ss (λ (s : Trees TagSaid). length (those (has_role 4) rows s)) in
        let m = sum-next counts i (omega (arith, l, u)) in
        omega (arith, a, b, k, m)

    end-most : end_row t.series i ≤ length (those (has_role 4) rows c)
    end-most = let a = ends in let b = sum-most counts (suc i) in let k = all-counted in omega (arith, a, b, k)

    -- the cells of the series in a table
    own-list : {B : Type 0} (d : B) (n : ℕ) (f : TagSaid → B) (l : List B) → ((q : ℕ) → q < length rows → role_of (get_or rows q 0) ≡ n → series_at L < q)
        → ((j : ℕ) → get_or l j d ≡ get_or (map f (those (has_role n) rows c)) j d) → length (those (has_role 4) rows c) ≤ length l
        → All (λ (s : Trees TagSaid). length (map f (those (has_role n) rows s)) ≡ length (those (has_role 4) rows s)) ss
        → own_of t.series i l ≡ map f (those (has_role n) rows s)
    own-list {B} d n f l late e k a =
        let b = shown.begins in
        let m = shown.count in
        let u = end-most in
        let o = own-length t.series i l (omega (arith, u, k)) in
        let q : length (map f (those (has_role n) rows s)) ≡ length (those (has_role 4) rows s) =
        all-at (λ (s : Trees TagSaid). length (map f (those (has_role n) rows s)) ≡ length (those (has_role 4) rows s)) none ss i a in-ss in
        ext_get_or d (own_of t.series i l) (map f (those (has_role n) rows s)) (o ∙ m ∙ sym q)
        (λ j x.
        let y : j < field_at t.series i Count = omega (arith, o, x) in
        let z : j < length (map f (those (has_role n) rows s)) = omega (arith, y, m, q) in
        own-cell t.series i l d j y ∙ ap (λ (r : ℕ). get_or l (r + j) d) b ∙ e (sum (take i counts) + j)
        ∙ ap (λ (v : List B). get_or v (sum (take i counts) + j) d) (whole n f late)
        ∙ ap (λ (v : List ℕ). get_or (in_turns (λ (s : Trees TagSaid). map f (those (has_role n) rows s)) ss) (sum (take i v) + j) d) (sym (maps-alike _ _ ss a))
        ∙ part_at (λ (s : Trees TagSaid). map f (those (has_role n) rows s)) d ss i j in-ss z)

    own-positions : own_of t.series i t.positions ≡ map position_of (those (has_role 9) rows s)
    unfolding Alike
    own-positions =
        own-list 0 9 position_of t.positions pos-late shows.positions in_p
        (all-change (Alike kind rows p L) _ ss (λ s a. length-map (those (has_role 9) rows s) position_of ∙ a.0) all_alike)

    own-amounts : own_of t.series i t.amounts ≡ map amount_in (those (has_role 10) rows s)
    unfolding Alike
    own-amounts =
        own-list (pos 0) 10 amount_in t.amounts qty-late shows.amounts in-a
        (all-change (Alike kind rows p L) _ ss (λ s a. length-map (those (has_role 10) rows s) amount_in ∙ a.1) all_alike)

    fits : SeriesFits kind quarters rows s
    fits = all-at (SeriesFits kind quarters rows) none ss i legal.series in-ss

    same-long : (length (those (has_role 9) rows s) ≡ length (those (has_role 4) rows s)) × (length (those (has_role 10) rows s) ≡ length (those (has_role 4) rows s))
    unfolding Alike
    same-long = all-at (Alike kind rows p L) none ss i all_alike in-ss

    rows_ok : (k : ℕ) → k < length (those (has_role 4) rows s)
        → row_allowed kind quarters (map position_of (those (has_role 9) rows s)) (map amount_in (those (has_role 10) rows s)) k ≡ true
    unfolding row_allowed
    rows_ok k l =
        let a = same-long in
        let ps = those (has_role 9) rows s in
        let qs = those (has_role 10) rows s in
        let x = length-map ps position_of in
        let u = pos-ok kind quarters (map position_of ps) legal.known fits.positions k (omega (arith, x, a.0, l)) in
        let v = map_at amount_in (record { v = Absent; scheme = Absent; dtd = record { version = Absent; release = Absent; message = Absent }; others = false; passable = false }) (pos 0) qs k (omega (arith, a.1, l)) in
        rw (u, v) (size_ok _)

  due-is : (i : ℕ) → i < count → sum (take i counts) ≡ due_row t.series i
  unfolding due_row sum
  due-is zero h = refl
  due-is (suc i) h =
      let z : eqb (suc i) 0 ≡ false = ne_eqb (suc i) 0 (λ e. omega (arith, e)) in
      let m : suc i - 1 ≡ i = omega arith in
      rw (z, m) (sym (ends i (omega arith)))

  module _ (i : ℕ) (h : i < count) where
    series-ok : series_allowed shown_tables i ≡ true
    unfolding series_allowed
    series-ok =
        let a = end-most i h in
        let n = (shown i h).count in
        rw (
          le-leb _ _ (let z : end_row t.series i ≤ length t.positions = omega (arith, a, in_p) in z),
          le-leb _ _ (let z : end_row t.series i ≤ length t.amounts = omega (arith, a, in-a) in z),
          eq-eqb _ _ ((shown i h).begins ∙ due-is i h),
          n,
          own-positions i h,
          own-amounts i h,
          count-ok kind quarters _ legal.known (fits i h).intervals,
        )
        (all_from (row_allowed kind quarters (map position_of (those (has_role 9) rows (get_or ss i none))) (map amount_in (those (has_role 10) rows (get_or ss i none))))
        (length (those (has_role 4) rows (get_or ss i none))) (rows_ok i h))

    total-ok : series_total shown_tables i ≡ content_total kind quarters rows (get_or ss i none)
    unfolding series_total content_total
    total-ok = let n = (shown i h).count in rw (own-positions i h, own-amounts i h, n)

  pub never-refused : is_allowed shown_tables ≡ true
  unfolding is_allowed
  never-refused = rw (kind-totals kind legal.known, period-ok kind c legal, le-leb _ _ room) (all_from _ count series-ok)

  pub as-content : each_total shown_tables ≡ content_totals kind c
  unfolding each_total content_totals each_series
  as-content =
      let e = long in
      ap (values_from (series_total shown_tables) 0) (sym e)
      ∙ values-map (series_total shown_tables) (content_total kind quarters rows) ss 0
      (λ i l. let z : 0 + i ≡ i = omega arith in rw z (total-ok i (omega (arith, e, l))))
