-- The loop over the series: pair after pair into blank cells, and the sum of all. Assumes nothing.
use Prim.Native.Nat.{ℕ, zero, suc, ◌+◌, ◌-◌, ◌*◌, ◌≤◌, ◌<◌}
use mathlib.Core.Path.{◌≡◌, refl, sym, ap, ◌∙◌}
use mathlib.Core.List.{List, [], ◌∷◌, ◌++◌}
use native.Mathlib.Omega.{arith}
use native.Mathlib.Nat.{le_refl}
use native.Mathlib.Numerals.{add-one}
use lib.IntN.{ℤ, pos, sub_ℕ, ◌+ℤ◌, +ℤ_idl, +ℤ_idr, +ℤ_assoc}
use lib.ListN.{length, set, take, replicate, length-set}
use lib.Seq.{sets}
use Rattle.lists.proofs.Stores.{sets-cons}
use Rattle.series.specs.Row.{field_at}
use Rattle.series.specs.declared.Field.TheVariants.{Count}
use Rattle.tables.specs.Cells.{no_amounts}
use Rattle.totals.specs.declared.sums.Words.{Words}
use Rattle.totals.specs.Rules.{Handed, most_quarters, too_large, own_of}
use Rattle.totals.specs.Totals.{whole_of, rest_of, values_from, added, last_quarter, series_total, each_total, pairs, pair_cells}
use Rattle.totals.specs.Shifted.{added_from, shifted_at, held_in, Holds, shift, most_held, Adds}
use Rattle.totals.proofs.Integers.{Less, less-add, less_zero, less-is, told}
use Rattle.totals.proofs.Shifts.{added-most}
use Rattle.totals.proofs.Standing.{rows-less, all-less}

-- ---- values put into blank cells

module _ {A : Type 0} (v : A) where
  pub few : (n m : ℕ) → n ≤ m → replicate n v ≡ take n (replicate m v)
  few zero m h = refl
  few (suc n) zero h = absurd (omega arith)
  few (suc n) (suc m) h = ap (λ (l : List A). v ∷ l) (few n m (omega arith))

  nowhere : (ws : List A) (i : ℕ) → sets [] i ws ≡ []
  nowhere [] i = refl
  nowhere (w ∷ ws) i = nowhere ws (suc i)

  pub into-blank : (zs : List A) (n m : ℕ) → n ≤ m → sets (replicate n v) 0 zs ≡ take n (zs ++ replicate m v)
  into-blank [] n m h = few n m h
  into-blank (z ∷ zs) zero m h = nowhere zs 1
  into-blank (z ∷ zs) (suc n) m h = sets-cons z (replicate n v) 0 zs ∙ ap (λ (l : List A). z ∷ l) (into-blank zs n m (omega arith))

blank-cells : (t zs : List ℤ) → t ≡ no_amounts (length t) → sets t 0 (pairs zs) ≡ pair_cells (length t) zs
unfolding pair_cells
blank-cells t zs e = ap (λ (l : List ℤ). sets l 0 (pairs zs)) e ∙ into-blank (pos 0) (pairs zs) (length t) (length t) (le_refl _)

-- ---- the pair of a total

pub pair-told : (z : ℤ) (w : Words) (n : ℕ) → Less z (held_in w) (too_large * n) → w.rest < 1000
    → (whole_of z ≡ sub_ℕ w.whole (shift * n)) × (rest_of z ≡ w.rest)
pair-told z w n p h =
    let e : too_large * n ≡ 1000 * (shift * n) = omega arith in
    let q : Less z (held_in w) (1000 * (shift * n)) = rw e at p in
    let t = told (held_in w) w.whole w.rest (shift * n) refl h in
    (ap whole_of (less-is q) ∙ t.0, ap rest_of (less-is q) ∙ t.1)

-- ---- the loop

-- the series before i are added: their pairs stand in t, and their sum in w, over n quarter hours
pub record Summed (g : Handed) (size : ℕ) (t : List ℤ) (w : Words) (n i : ℕ) : Type 0 where
  pub most : i ≤ g.count
  pub same : length t ≡ size
  pub cells : sets t (2 * i) (pairs (values_from (series_total g) i (g.count - i))) ≡ pair_cells size (each_total g)
  pub rest : w.rest < 1000
  pub quarters : n ≤ most_quarters * i
  pub held : held_in w ≤ most_held n
  pub sofar : ℤ
  pub less : Less sofar (held_in w) (too_large * n)
  pub sum : sofar +ℤ added (values_from (series_total g) i (g.count - i)) ≡ added (each_total g)

module _ (g : Handed) where
  pub summed-start : (t : List ℤ) → t ≡ no_amounts (length t) → Summed g (length t) t (record { whole = 0; rest = 0 }) 0 0
  unfolding each_total
  summed-start t e =
      let z : g.count - 0 ≡ g.count = omega arith in
      record {
        most = omega arith;
        same = refl;
        cells = rw z (blank-cells t (values_from (series_total g) 0 g.count) e);
        rest = omega arith;
        quarters = omega arith;
        held = omega arith;
        sofar = pos 0;
        less = less_zero;
        sum = rw z (+ℤ_idl _);
      }

  module _ (i last : ℕ) (e : last ≡ last_quarter g.kind g.quarters (field_at g.series i Count)) (a : Adds g.series g.positions g.amounts i last)
      (v : Words) (o : Holds v (added_from (shifted_at (own_of g.series i g.positions) (own_of g.series i g.amounts)) 1 last)) where
    pub one-held : (held_in v ≤ most_held last) × (last ≤ most_quarters)
    one-held = (omega (arith, o.is, added-most _ _ (all-less _ _ _ a.rows) 1 last), a.rows.most)

    pub one_less : Less (series_total g i) (held_in v) (too_large * last)
    unfolding series_total
    one_less = rw (sym e, o.is) (rows-less _ _ _ a.rows)

    module _ (size : ℕ) (t u : List ℤ) (w x : Words) (n : ℕ) (s : Summed g size t w n i) (h : i < g.count)
        (eu : u ≡ set (set t (2 * i) (sub_ℕ v.whole (shift * last))) (2 * i + 1) (pos v.rest)) (ox : Holds x (held_in w + held_in v)) where
      pub summed-next : Summed g size u x (n + last) (i + 1)
      unfolding pairs values_from added
      summed-next =
          let k : g.count - i ≡ suc (g.count - suc i) = omega arith in
          let b = one-held in
          let p = pair-told (series_total g i) v last one_less o.rest in
          let c = rw (k, p.0, p.1) at s.cells in
          let j : 2 * (i + 1) ≡ suc (suc (2 * i)) = omega arith in
          let m = rw k at s.sum in
          let z = rw (add-one (2 * i)) at eu in
          let f : too_large * n + too_large * last ≡ too_large * (n + last) = omega arith in
          record {
            most = omega arith;
            same = rw eu (simp length-set s.same);
            cells = rw (z, j, add-one i) c;
            rest = ox.rest;
            quarters = omega (arith, b.1, s.quarters);
            held = omega (arith, ox.is, b.0, s.held);
            sofar = s.sofar +ℤ series_total g i;
            less = rw ox.is (rw f at (less-add s.less one_less));
            sum = rw (add-one i) (+ℤ_assoc s.sofar (series_total g i) _ ∙ m);
          }

  module _ (size : ℕ) (t : List ℤ) (w : Words) (n i : ℕ) (s : Summed g size t w n i) (h : g.count ≤ i) where
    none : g.count - i ≡ 0
    none = omega arith

    pub summed-end : t ≡ pair_cells size (each_total g)
    unfolding pairs values_from
    summed-end = rw none at s.cells

    all-less-end : Less (added (each_total g)) (held_in w) (too_large * n)
    unfolding added values_from
    all-less-end = let m = rw none at s.sum in rw (sym m ∙ +ℤ_idr s.sofar) s.less

    pub sum-end : (b u : List ℤ) → b ≡ no_amounts (length b) → u ≡ set (set b 0 (sub_ℕ w.whole (shift * n))) 1 (pos w.rest)
        → u ≡ pair_cells (length b) (added (each_total g) ∷ [])
    unfolding pairs
    sum-end b u e f =
        let p = pair-told (added (each_total g)) w n all-less-end s.rest in
        f ∙ rw (sym p.0, sym p.1) (blank-cells b (added (each_total g) ∷ []) e)
