-- What stands in a quarter hour, from one Pos to the next. Assumes nothing.
use Prim.Native.Nat.{ℕ, zero, suc, ◌+◌, ◌-◌, ◌*◌, ◌≤◌, ◌<◌}
use mathlib.Core.Path.{◌≡◌, refl, sym, ap, ◌∙◌}
use mathlib.Core.List.{List}
use mathlib.Core.Bool.{true}
use mathlib.Core.Logic.{⊎_elim}
use native.Mathlib.Omega.{arith}
use native.Mathlib.Nat.{le_refl, mul-zero, mul-suc}
use borrow.Author.Tests.{le-leb, lt-leb, lt-ltb, le-ltb}
use lib.Dec.{leb}
use lib.IntN.{ℤ, pos}
use lib.ListN.{length, get_or}
use Rattle.lists.proofs.Cases.{eqb-cases, ltb-cases, by_cond}
use Rattle.totals.specs.declared.sums.Words.{Words}
use Rattle.totals.specs.Rules.{most_quarters, too_large, size_allowed}
use Rattle.totals.specs.Totals.{standing, rows_total, stands_from}
use Rattle.totals.specs.Shifted.{shifted_of, added_from, shifted_at, held_in, most_held, Holds, Rising}
use Rattle.totals.proofs.Integers.{Less}
use Rattle.totals.proofs.Shifts.{shifted-less, added-less, added-most}

-- n times the same
block : (g : ℕ → ℕ) (b p n m : ℕ) → ((k : ℕ) → p ≤ k → k < p + n → g k ≡ b) → added_from g p (n + m) ≡ b * n + added_from g (p + n) m
unfolding added_from
block g b p zero m h =
    let e : 0 + m ≡ m = omega arith in
    let f : p + 0 ≡ p = omega arith in
    rw (e, f) (omega (arith, mul-zero b))
block g b p (suc n) m h =
    let e : suc p + n ≡ p + suc n = omega arith in
    let i : added_from g (suc p) (n + m) ≡ b * n + added_from g (p + suc n) m =
    rw e at (block g b (suc p) n m (λ k x y. h k (omega (arith, x)) (omega (arith, y)))) in
    let s : suc n + m ≡ suc (n + m) = omega arith in
    rw s (omega (arith, h p (le_refl _) (omega arith), i, mul-suc b n))

-- rows up to j are added
pub record Added (ps : List ℕ) (am : List ℤ) (last : ℕ) (w : Words) (j : ℕ) : Type 0 where
  pub most : j ≤ length ps
  pub rest : w.rest < 1000
  pub from : stands_from ps last j ≤ last + 1
  pub sum : held_in w + added_from (shifted_at ps am) (stands_from ps last j) (last + 1 - stands_from ps last j) ≡ added_from (shifted_at ps am) 1 last

module _ (ps : List ℕ) (am : List ℤ) (last : ℕ) (r : Rising ps am last) where
  later : (j d : ℕ) → j + suc d < length ps → get_or ps j 0 < get_or ps (j + suc d) 0
  later j zero h = r.rise j h
  later j (suc d) h =
      let l : j + suc d < length ps = omega arith in
      let n : j + suc d + 1 < length ps = omega arith in
      let e : j + suc (suc d) ≡ j + suc d + 1 = omega arith in
      rw e (let a = later j d l in let b = r.rise (j + suc d) n in omega (arith, a, b))

  -- each row but the last stands up to the Pos after it, and the last through the last quarter hour
  pub stands : (j m k : ℕ) → j < m → m ≤ length ps → get_or ps j 0 ≤ k → ((i : ℕ) → j < i → i < length ps → k < get_or ps i 0) → standing ps am m k ≡ get_or am j (pos 0)
  unfolding standing
  stands j zero k h l p q = absurd (omega arith)
  stands j (suc n) k h l p q =
      ⊎_elim
      (λ y. rw (sym y.0, le-leb (get_or ps j 0) k p))
      (λ y.
      let a : j < n = omega (arith, y.0) in
      rw (lt-leb (get_or ps n 0) k (q n a (omega arith))) (stands j n k a (omega arith) p q))
      (eqb-cases j n)

  row_from : (j : ℕ) → j < length ps → stands_from ps last j ≡ get_or ps j 0
  unfolding stands_from
  row_from j h = rw (lt-ltb j (length ps) h)

  pub past-rows : stands_from ps last (length ps) ≡ last + 1
  unfolding stands_from
  past-rows = rw (le-ltb (length ps) (length ps) (le_refl _))

  pub first-from : stands_from ps last 0 ≡ 1
  first-from = row_from 0 r.some ∙ r.first

  pub from_one : (j : ℕ) → j < length ps → 1 ≤ stands_from ps last j
  from_one zero h = omega (arith, first-from)
  from_one (suc j) h =
      let e : 0 + suc j ≡ suc j = omega arith in
      let a : get_or ps 0 0 < get_or ps (suc j) 0 = rw e at (later 0 j (rw e h)) in
      omega (arith, a, r.first, row_from (suc j) h)

  -- the next row begins to stand later, and none after the last quarter hour but one
  pub from-later : (j : ℕ) → j < length ps → (stands_from ps last j < stands_from ps last (j + 1)) × (stands_from ps last (j + 1) ≤ last + 1)
  unfolding stands_from
  from-later j h =
      let b = r.within j h in
      ⊎_elim
      (λ y. let a = r.rise j y.0 in let d = r.within (j + 1) y.0 in rw (lt-ltb j (length ps) h, y.1) (a, omega (arith, d)))
      (λ y. rw (lt-ltb j (length ps) h, y.1) (omega (arith, b), omega arith))
      (ltb-cases (j + 1) (length ps))

  -- what stands in the quarter hours of row j
  pub row-stands : (j k : ℕ) → j < length ps → stands_from ps last j ≤ k → k < stands_from ps last (j + 1) → standing ps am (length ps) k ≡ get_or am j (pos 0)
  row-stands j k h p q =
      stands j (length ps) k h (le_refl _) (rw (row_from j h) at p)
      (λ i a b.
      let n : j + 1 < length ps = omega (arith, a, b) in
      let f : k < get_or ps (j + 1) 0 = rw (row_from (j + 1) n) at q in
      ⊎_elim
      (λ y. rw (sym y.0) f)
      (λ y.
      let e : j + 1 + suc (i - (j + 2)) ≡ i = omega (arith, a, y.0) in
      let g : get_or ps (j + 1) 0 < get_or ps i 0 = rw e at (later (j + 1) (i - (j + 2)) (rw e b)) in
      omega (arith, f, g))
      (eqb-cases (j + 1) i))

  small : (m k : ℕ) → m ≤ length ps → size_allowed (standing ps am m k) ≡ true
  unfolding standing size_allowed
  small zero k h = refl
  small (suc n) k h = by_cond (λ (z : ℤ). size_allowed z ≡ true) (leb (get_or ps n 0) k) (r.sizes n h) (small n k (omega arith))

  -- so each is 10^15 less than its shifted amount
  pub all-less : (k : ℕ) → Less (standing ps am (length ps) k) (shifted_at ps am k) too_large × (shifted_at ps am k < 2 * too_large)
  unfolding shifted_at
  all-less k = shifted-less _ (small (length ps) k (le_refl _))

  row_is : (j k : ℕ) → j < length ps → stands_from ps last j ≤ k → k < stands_from ps last (j + 1) → shifted_at ps am k ≡ shifted_of (get_or am j (pos 0))
  unfolding shifted_at
  row_is j k h p q = ap shifted_of (row-stands j k h p q)

  pub added-start : Added ps am last (record { whole = 0; rest = 0 }) 0
  added-start =
      record {
        most = omega arith;
        rest = omega arith;
        from = omega (arith, first-from);
        sum = let e : last + 1 - 1 ≡ last = omega arith in rw (first-from, e) (omega arith);
      }

  -- the quarter hours of one row more
  pub added_next : (w v : Words) (j : ℕ) → Added ps am last w j → j < length ps
      → Holds v (held_in w + shifted_of (get_or am j (pos 0)) * (stands_from ps last (j + 1) - stands_from ps last j)) → Added ps am last v (j + 1)
  added_next w v j a h o =
      let p = stands_from ps last j in
      let q = stands_from ps last (j + 1) in
      let g = shifted_at ps am in
      let l = from-later j h in
      let b : added_from g p (q - p + (last + 1 - q)) ≡ shifted_of (get_or am j (pos 0)) * (q - p) + added_from g (p + (q - p)) (last + 1 - q) =
      block g (shifted_of (get_or am j (pos 0))) p (q - p) (last + 1 - q) (λ k x y. row_is j k h x (omega (arith, y, l.0))) in
      let e : q - p + (last + 1 - q) ≡ last + 1 - p = omega (arith, l.0, l.1) in
      let f : p + (q - p) ≡ q = omega (arith, l.0) in
      let c : added_from g p (last + 1 - p) ≡ shifted_of (get_or am j (pos 0)) * (q - p) + added_from g q (last + 1 - q) = rw (e, f) at b in
      record { most = omega arith; rest = o.rest; from = l.1; sum = omega (arith, o.is, a.sum, c) }

  pub added-end : (w : Words) (j : ℕ) → Added ps am last w j → length ps ≤ j → Holds w (added_from (shifted_at ps am) 1 last)
  unfolding added_from
  added-end w j a h =
      let e : j ≡ length ps = omega (arith, a.most) in
      let f : stands_from ps last j ≡ last + 1 = rw e past-rows in
      let z : last + 1 - (last + 1) ≡ 0 = omega arith in
      let s : held_in w + added_from (shifted_at ps am) (last + 1) 0 ≡ added_from (shifted_at ps am) 1 last = rw (f, z) at a.sum in
      record { is = omega (arith, s); rest = a.rest }

  -- which is never too much for the two words
  pub added-held : (w : Words) (j : ℕ) → Added ps am last w j → held_in w ≤ most_held most_quarters
  added-held w j a =
      omega (arith, a.sum, added-most (standing ps am (length ps)) (shifted_at ps am) all-less 1 last, r.most)

  pub rows-less : Less (rows_total ps am last) (added_from (shifted_at ps am) 1 last) (too_large * last)
  unfolding rows_total
  rows-less = added-less (standing ps am (length ps)) (shifted_at ps am) all-less 1 last
