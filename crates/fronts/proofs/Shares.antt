-- Lists that begin with the same n bytes. Assumes nothing.
use Prim.Native.Nat.{ℕ, ◌+◌, ◌≤◌}
use mathlib.Core.Path.{◌≡◌, sym, ap, ◌∙◌}
use mathlib.Core.List.{List}
use native.Mathlib.Omega.{arith}
use lib.ListN.{length, take, drop, length-take, length-drop}
use lib.Seq.{length-take-le, take-take}
use Rattle.slices.specs.Bytes.{byte}
use Rattle.slices.specs.Same.{same, begins}
use Rattle.slices.proofs.Bytes.{byte-take}
use Rattle.slices.proofs.Near.{Front, front-drop, take-front}

module _ (x y : List ℕ) where
  pub shared-front : (n : ℕ) → take n y ≡ take n x → Front x y n
  shared-front n q i l = sym (byte-take x n i l) ∙ ap (λ (z : List ℕ). byte z i) (sym q) ∙ byte-take y n i l

  pub shared_long : (n : ℕ) → take n y ≡ take n x → n ≤ length x → n ≤ length y
  shared_long n q l = omega (arith, ap length q, length-take-le n x l, length-take n y)

  -- fewer
  pub shared-less : (m n : ℕ) → m ≤ n → take n y ≡ take n x → take m y ≡ take m x
  shared-less m n l q = sym (take-take m n y l) ∙ ap (take m) q ∙ take-take m n x l

  -- those behind the first k
  pub shared-behind : (k n : ℕ) → take (k + n) y ≡ take (k + n) x → k + n ≤ length x → take n (drop k y) ≡ take n (drop k x)
  shared-behind k n q l =
      let l' = shared_long (k + n) q l in
      take-front (drop k y) (drop k x) n (omega (arith, length-drop k y)) (omega (arith, length-drop k x)) (front-drop y x k n (λ i g. sym (shared-front (k + n) q i g)))

  pub shared-begins : (t : List ℕ) → take (length t) y ≡ take (length t) x → begins t y ≡ begins t x
  unfolding begins
  shared-begins t q = ap (same t) q
