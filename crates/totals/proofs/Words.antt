-- A number times n, its thousands and its rest apart. Assumes nothing.
use Prim.Native.Nat.{ℕ, ◌+◌, ◌*◌, ◌/◌, ◌%◌, ◌≤◌, ◌<◌}
use mathlib.Core.Path.{◌≡◌, sym, ap, ◌∙◌}
use native.Mathlib.Omega.{arith}
use native.Mathlib.Nat.{div-add-mod', mod-lt, mul-le-mul, add-mul, mul_assoc}
use Rattle.totals.specs.Rules.{most_quarters, too_large}
use Rattle.totals.specs.Shifted.{shift}

module _ (b n : ℕ) where
  pub parts : 1000 * (b / 1000 * n) + b % 1000 * n ≡ b * n
  parts =
      let e : 1000 * (b / 1000) * n ≡ 1000 * (b / 1000 * n) = mul_assoc 1000 (b / 1000) n in
      let f : 1000 * (b / 1000) + b % 1000 ≡ b = omega (arith, div-add-mod' b 1000) in
      ap (λ (k : ℕ). k + b % 1000 * n) (sym e) ∙ sym (add-mul (1000 * (b / 1000)) (b % 1000) n) ∙ ap (λ (k : ℕ). k * n) f

  module _ (h : b < 2 * too_large) (l : n ≤ most_quarters) where
    pub rest-most : b % 1000 * n ≤ 999 * most_quarters
    rest-most = mul-le-mul {n₂ = 999} (let m = mod-lt b {m = 1000} (omega arith) in omega (arith, m)) l

    pub whole-most : b / 1000 * n ≤ 2 * shift * most_quarters
    whole-most = mul-le-mul {n₂ = 2 * shift} (let d = div-add-mod' b 1000 in omega (arith, d)) l
