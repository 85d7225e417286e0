-- Each column of a row is read back as it was written, where it keeps to its room.
-- Assumes nothing.
use Prim.Native.Nat.{ℕ, ◌/◌, ◌%◌, ◌<◌}
use mathlib.Core.Path.{◌≡◌, ap}
use native.Mathlib.Omega.{arith}
use lib.Dec.{eqb}
use Rattle.structure.specs.Rows.{name_of, parent_of, required, repeated}
use Rattle.columns.specs.Columns.{columns, form_of, collapsed, scheme_of, role_of}

module _ (n p m a f c s r : ℕ) (hn : n < 256) (hp : p < 256) (hm : m < 2) (ha : a < 2) (hf : f < 256) (hc : c < 2) (hs : s < 256) (hr : r < 256) where
  pub name_back : name_of (columns n p m a f c s r) ≡ n
  unfolding name_of
  name_back = omega arith

  pub parent-back : parent_of (columns n p m a f c s r) ≡ p
  unfolding parent_of
  parent-back = omega arith

  pub required-back : required (columns n p m a f c s r) ≡ eqb m 1
  unfolding required
  required-back = let e : columns n p m a f c s r / 65536 % 2 ≡ m = omega arith in ap (λ (k : ℕ). eqb k 1) e

  pub repeated-back : repeated (columns n p m a f c s r) ≡ eqb a 1
  unfolding repeated
  repeated-back = let e : columns n p m a f c s r / 131072 % 2 ≡ a = omega arith in ap (λ (k : ℕ). eqb k 1) e

  pub form-back : form_of (columns n p m a f c s r) ≡ f
  unfolding form_of
  form-back = omega arith

  pub collapsed-back : collapsed (columns n p m a f c s r) ≡ eqb c 1
  unfolding collapsed
  collapsed-back = let e : columns n p m a f c s r / 262144 % 2 ≡ c = omega arith in ap (λ (k : ℕ). eqb k 1) e

  pub scheme-back : scheme_of (columns n p m a f c s r) ≡ s
  unfolding scheme_of
  scheme-back = omega arith

  pub role-back : role_of (columns n p m a f c s r) ≡ r
  unfolding role_of
  role-back = omega arith
