-- What the tests of a series' rows tell, and which rows they allow to be added. Assumes nothing.
use Prim.Native.Nat.{ℕ, ◌+◌, ◌-◌, ◌≤◌, ◌<◌}
use mathlib.Core.Path.{◌≡◌, sym, ◌∙◌}
use mathlib.Core.List.{List}
use mathlib.Core.Bool.{Bool, true, false, cond}
use mathlib.Core.Logic.{◌⊎◌, inl, inr, ⊎_elim}
use native.Mathlib.Omega.{arith}
use borrow.Author.Tests.{le-leb, lt-leb, eq-eqb, ne_eqb, leb-true, ltb-true, eqb-true}
use lib.Dec.{eqb, leb, ltb}
use lib.IntN.{ℤ, pos}
use lib.ListN.{length, get_or, take, drop, length-take, length-drop}
use Rattle.lists.proofs.Cases.{eqb-cases, both_true}
use Rattle.series.specs.Row.{field_at, room_for}
use Rattle.series.specs.declared.Field.TheVariants.{FirstRow, Count}
use Rattle.totals.specs.Rules.{Handed, most_quarters, most_intervals, has_totals, period_allows, count_allowed, pos_allowed, size_allowed, row_allowed, all_below, end_row, due_row, own_of, series_allowed, is_allowed}
use Rattle.totals.specs.Totals.{last_quarter}
use Rattle.totals.specs.Shifted.{Rising, Adds}
use Rattle.totals.proofs.Below.{all-at}

-- ---- the rows of a series, as the code takes them

pub own_is : {A : Type 0} (series : List ℕ) (i first end : ℕ) (l : List A) → first ≡ field_at series i FirstRow → end ≡ end_row series i
    → take (end - first) (drop first l) ≡ own_of series i l
unfolding end_row own_of
own_is series i first end l f e =
    let n : end - first ≡ field_at series i Count = omega (arith, f, e) in
    rw (n, f)

pub from_end : (series : List ℕ) (i first end : ℕ) → first ≡ field_at series i FirstRow → end ≡ end_row series i → first ≤ end
unfolding end_row
from_end series i first end f e = omega (arith, f, e)

pub own-length : {A : Type 0} (series : List ℕ) (i : ℕ) (l : List A) → end_row series i ≤ length l → length (own_of series i l) ≡ field_at series i Count
unfolding end_row own_of
own-length series i l h = simp (length-take, length-drop) (omega (arith, h))

module _ (g : Handed) (i first n end due : ℕ) (f : first ≡ field_at g.series i FirstRow) (c : n ≡ field_at g.series i Count)
    (e : end ≡ first + n) (d : due ≡ due_row g.series i) where
  end_is : end ≡ end_row g.series i
  unfolding end_row
  end_is = omega (arith, f, c, e)

  pub no-positions : length g.positions < end → false ≡ series_allowed g i
  unfolding series_allowed
  no-positions h = rw (sym end_is, lt-leb _ _ h)

  module _ (h : end ≤ length g.positions) where
    pub no-amounts : length g.amounts < end → false ≡ series_allowed g i
    unfolding series_allowed
    no-amounts l = rw (sym end_is, le-leb _ _ h, lt-leb _ _ l)

    module _ (l : end ≤ length g.amounts) where
      pub not-due : (first ≡ due → ⊥) → false ≡ series_allowed g i
      unfolding series_allowed
      not-due o = rw (sym end_is, le-leb _ _ h, le-leb _ _ l, sym f, sym d, ne_eqb _ _ o)

      module _ (o : first ≡ due) {r : Bool} (k : r ≡ count_allowed g.kind g.quarters n) where
        pub not-count : r ≡ false → false ≡ series_allowed g i
        unfolding series_allowed
        not-count t = rw (sym end_is, le-leb _ _ h, le-leb _ _ l, sym f, sym d, eq-eqb _ _ o, sym c, sym k, t)

        pub as_rows : r ≡ true → {s : Bool}
            → s
            ≡ all_below (row_allowed g.kind g.quarters (take (end - first) (drop first g.positions)) (take (end - first) (drop first g.amounts)))
            (length (take (end - first) (drop first g.positions)))
            → s ≡ series_allowed g i
        unfolding series_allowed
        as_rows t {s} a =
            let p = own_is g.series i first end g.positions f end_is in
            let q = own_is g.series i first end g.amounts f end_is in
            let m = own-length g.series i g.positions (rw (sym end_is) h) in
            let b : s ≡ all_below (row_allowed g.kind g.quarters (own_of g.series i g.positions) (own_of g.series i g.amounts)) (field_at g.series i Count) =
            rw (p, q, m) at a in
            rw (sym end_is, le-leb _ _ h, le-leb _ _ l, sym f, sym d, eq-eqb _ _ o, sym c, sym k, t) (rw c b)

-- ---- what the tests tell

day-length : (q : ℕ) → cond (eqb q 92) true (cond (eqb q 96) true (eqb q 100)) ≡ true → (1 ≤ q) × (q ≤ 100)
day-length q e =
    ⊎_elim
    (λ y. (omega (arith, y.0), omega (arith, y.0)))
    (λ y.
    let a : cond (eqb q 96) true (eqb q 100) ≡ true = rw y.1 at e in
    ⊎_elim
    (λ z. (omega (arith, z.0), omega (arith, z.0)))
    (λ z. let b = eqb-true q 100 (rw z.1 at a) in (omega (arith, b), omega (arith, b)))
    (eqb-cases q 96))
    (eqb-cases q 92)

pub count-facts : (kind q n : ℕ) → period_allows kind q ≡ true → count_allowed kind q n ≡ true → (1 ≤ n) × (last_quarter kind q n ≤ most_quarters)
unfolding period_allows count_allowed last_quarter
count-facts kind q n p k =
    ⊎_elim
    (λ y.
    let d = day-length q (rw y.1 at p) in
    let e = eqb-true n q (rw y.1 at k) in
    rw y.0 (omega (arith, d.0, e), omega (arith, d.1, e)))
    (λ y.
    let a = both_true (leb 1 q) (rw y.1 at p) in
    let b = both_true (leb 1 n) (rw y.1 at k) in
    let m = leb-true q most_quarters a.1 in (
      leb-true 1 n b.0,
      ⊎_elim
          (λ z. rw z.1 m)
          (λ z. let l = leb-true n most_intervals (rw z.1 at b.1) in rw z.1 (omega (arith, l)))
          (eqb-cases kind 2),
    ))
    (eqb-cases kind 1)

-- in kind 2, and in the others
PosRule : ℕ → ℕ → List ℕ → ℕ → Type 0
PosRule kind q ps j =
    ((kind ≡ 2) × (cond (eqb j 0) (eqb (get_or ps j 0) 1) (ltb (get_or ps (j - 1) 0) (get_or ps j 0)) ≡ true)) ⊎ ((kind ≡ 2 → ⊥) × (get_or ps j 0 ≡ j + 1))

pos-facts : (kind q : ℕ) (ps : List ℕ) (j : ℕ) → pos_allowed kind q ps j ≡ true → (get_or ps j 0 ≤ q) × PosRule kind q ps j
unfolding pos_allowed PosRule
pos-facts kind q ps j e =
    let a = both_true (leb (get_or ps j 0) q) e in (
      leb-true _ _ a.0,
      ⊎_elim (λ y. inl (y.0, rw y.1 at a.1)) (λ y. inr (y.0, eqb-true _ _ (rw y.1 at a.1))) (eqb-cases kind 2),
    )

module _ (kind q n : ℕ) (ps : List ℕ) (am : List ℤ) (len : length ps ≡ n) (same : length am ≡ n) (p : period_allows kind q ≡ true) (k : count_allowed kind q n ≡ true)
    (all : all_below (row_allowed kind q ps am) n ≡ true) where
  row_at : (j : ℕ) → j < length ps → (pos_allowed kind q ps j ≡ true) × (size_allowed (get_or am j (pos 0)) ≡ true)
  unfolding row_allowed
  row_at j h = both_true (pos_allowed kind q ps j) (all-at (row_allowed kind q ps am) n j all (rw len at h))

  first-is : 0 < length ps → get_or ps 0 0 ≡ 1
  unfolding PosRule
  first-is h = ⊎_elim (λ y. eqb-true _ _ y.1) (λ y. y.1) (pos-facts kind q ps 0 (row_at 0 h).0).1

  rises : (j : ℕ) → j + 1 < length ps → get_or ps j 0 < get_or ps (j + 1) 0
  unfolding PosRule
  rises j h =
      let z : eqb (j + 1) 0 ≡ false = ne_eqb (j + 1) 0 (λ x. omega (arith, x)) in
      let m : j + 1 - 1 ≡ j = omega arith in
      ⊎_elim
      (λ y. ltb-true _ _ (rw (z, m) at y.1))
      (λ y.
      ⊎_elim (λ x. absurd (y.0 x.0)) (λ x. omega (arith, x.1, y.1)) (pos-facts kind q ps j (row_at j (omega arith)).0).1)
      (pos-facts kind q ps (j + 1) (row_at (j + 1) h).0).1

  inside : (j : ℕ) → j < length ps → get_or ps j 0 ≤ last_quarter kind q n
  unfolding PosRule last_quarter
  inside j h =
      let a = pos-facts kind q ps j (row_at j h).0 in
      ⊎_elim
      (λ y. rw (eq-eqb _ _ y.0) a.0)
      (λ y. rw (ne_eqb _ _ y.0) (omega (arith, y.1, len, h)))
      a.1

  pub as-rising : Rising ps am (last_quarter kind q n)
  as-rising =
      let f = count-facts kind q n p k in
      record {
        same = same ∙ sym len;
        some = rw len f.0;
        first = first-is (rw len f.0);
        rise = rises;
        within = inside;
        most = f.1;
        sizes = λ j h. (row_at j h).1;
      }

-- the tests in their order
module _ (g : Handed) (ok : is_allowed g ≡ true) where
  pub period-ok : period_allows g.kind g.quarters ≡ true
  unfolding is_allowed
  period-ok = (both_true (period_allows g.kind g.quarters) (both_true (has_totals g.kind) ok).1).0

  pub series-ok : (i : ℕ) → i < g.count → series_allowed g i ≡ true
  unfolding is_allowed
  series-ok i h =
      let a = both_true (has_totals g.kind) ok in
      let b = both_true (period_allows g.kind g.quarters) a.1 in
      all-at (series_allowed g) g.count i (both_true (leb g.count (room_for (length g.series))) b.1).1 h

  pub as-adds : (i : ℕ) → i < g.count → Adds g.series g.positions g.amounts i (last_quarter g.kind g.quarters (field_at g.series i Count))
  unfolding series_allowed
  as-adds i h =
      let a = both_true (leb (end_row g.series i) (length g.positions)) (series-ok i h) in
      let b = both_true (leb (end_row g.series i) (length g.amounts)) a.1 in
      let f = both_true (eqb (field_at g.series i FirstRow) (due_row g.series i)) b.1 in
      let d = both_true (count_allowed g.kind g.quarters (field_at g.series i Count)) f.1 in
      let p = leb-true _ _ a.0 in
      let q = leb-true _ _ b.0 in
      record {
        in_positions = p;
        in_amounts = q;
        rows =
            as-rising g.kind g.quarters (field_at g.series i Count) _ _ (own-length g.series i g.positions p)
            (own-length g.series i g.amounts q) period-ok d.0 d.1;
      }

  pub adds-at : (i : ℕ) → i < g.count → {last : ℕ} → last ≡ last_quarter g.kind g.quarters (field_at g.series i Count)
      → Adds g.series g.positions g.amounts i last
  adds-at i h e = rw e (as-adds i h)
