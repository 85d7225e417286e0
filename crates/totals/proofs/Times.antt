-- The sum over the quarter hours is the sum over the rows of amount times quarter hours. Assumes nothing.
use Prim.Native.Nat.{ℕ, zero, suc, ◌+◌, ◌-◌, ◌≤◌, ◌<◌}
use mathlib.Core.Path.{◌≡◌, sym, ap, ◌∙◌}
use mathlib.Core.List.{List}
use native.Mathlib.Omega.{arith}
use native.Mathlib.Nat.{le_refl}
use native.Mathlib.Numerals.{add-one}
use lib.IntN.{ℤ, pos, ◌+ℤ◌, ◌*ℤ◌, +ℤ_idl, +ℤ_assoc, +ℤ_comm, *ℤ_comm, *ℤ-zero, suc_ℤ-*ℤ}
use lib.ListN.{length, get_or}
use Rattle.totals.specs.Totals.{standing, values_from, added, rows_total, stands_from, row_times, times_total}
use Rattle.totals.specs.Shifted.{Rising}
use Rattle.totals.proofs.Standing.{first-from, past-rows, from-later, row-stands}

times-suc : (b : ℤ) (n : ℕ) → b *ℤ pos (suc n) ≡ b *ℤ pos n +ℤ b
times-suc b n = *ℤ_comm b (pos (suc n)) ∙ suc_ℤ-*ℤ (pos n) b ∙ ap (λ (z : ℤ). z +ℤ b) (*ℤ_comm (pos n) b)

blocks : (f : ℕ → ℤ) (b : ℤ) (p n m : ℕ) → ((k : ℕ) → p ≤ k → k < p + n → f k ≡ b)
    → added (values_from f p (n + m)) ≡ b *ℤ pos n +ℤ added (values_from f (p + n) m)
unfolding added values_from
blocks f b p zero m h =
    let e : 0 + m ≡ m = omega arith in
    let d : p + 0 ≡ p = omega arith in
    rw (e, d, *ℤ-zero b) (sym (+ℤ_idl (added (values_from f p m))))
blocks f b p (suc n) m h =
    let e : suc p + n ≡ p + suc n = omega arith in
    let s : suc n + m ≡ suc (n + m) = omega arith in
    let rest = added (values_from f (p + suc n) m) in
    let i : added (values_from f (suc p) (n + m)) ≡ b *ℤ pos n +ℤ rest = rw e at (blocks f b (suc p) n m (λ k x y. h k (omega (arith, x)) (omega (arith, y)))) in
    rw (s, h p (le_refl _) (omega arith), i)
    (sym (+ℤ_assoc b (b *ℤ pos n) rest) ∙ ap (λ (z : ℤ). z +ℤ rest) (+ℤ_comm b (b *ℤ pos n) ∙ sym (times-suc b n)))

module _ (ps : List ℕ) (am : List ℤ) (last : ℕ) (r : Rising ps am last) where
  from_row : (n j : ℕ) → j + n ≡ length ps
      → added (values_from (standing ps am (length ps)) (stands_from ps last j) (last + 1 - stands_from ps last j)) ≡ added (values_from (row_times ps am last) j n)
  unfolding added values_from row_times
  from_row zero j e =
      let a : j ≡ length ps = omega (arith, e) in
      let z : last + 1 - (last + 1) ≡ 0 = omega arith in
      rw (a, past-rows ps am last r, z)
  from_row (suc n) j e =
      let f = standing ps am (length ps) in
      let p = stands_from ps last j in
      let q = stands_from ps last (j + 1) in
      let h : j < length ps = omega (arith, e) in
      let l = from-later ps am last r j h in
      let b = blocks f (get_or am j (pos 0)) p (q - p) (last + 1 - q) (λ k x y. row-stands ps am last r j k h x (omega (arith, y, l.0))) in
      let u : q - p + (last + 1 - q) ≡ last + 1 - p = omega (arith, l.0, l.1) in
      let v : p + (q - p) ≡ q = omega (arith, l.0) in
      let i = from_row n (j + 1) (omega (arith, e)) in
      let w : added (values_from f q (last + 1 - q)) ≡ added (values_from (row_times ps am last) (suc j) n) = i ∙ ap (λ (k : ℕ). added (values_from (row_times ps am last) k n)) (add-one j) in
      let c : added (values_from f p (last + 1 - p)) ≡ get_or am j (pos 0) *ℤ pos (q - p) +ℤ added (values_from f q (last + 1 - q)) = rw (u, v) at b in
      c ∙ ap (λ (z : ℤ). (get_or am j (pos 0) *ℤ pos (q - p)) +ℤ z) w

  pub times-is : rows_total ps am last ≡ times_total ps am last
  unfolding rows_total times_total
  times-is =
      let e : last + 1 - 1 ≡ last = omega arith in
      let s = from_row (length ps) 0 (omega arith) in
      let t : added (values_from (standing ps am (length ps)) 1 (last + 1 - 1)) ≡ added (values_from (row_times ps am last) 0 (length ps)) =
      rw (first-from ps am last r) at s in
      rw e at t
