-- A test with what it tells, for a proof by cases on it:
--     ⊎-elim (λ y. simp y.1 ..) (λ y. simp y.1 ..) (ltb-cases a b)
-- Assumes nothing.
use mathlib.Core.Path.{◌≡◌, refl, ap}
use Prim.Native.Nat.{ℕ, zero, suc, ◌+◌, ◌≤◌, ◌<◌}
use mathlib.Core.Bool.{Bool, true, false, cond}
use mathlib.Core.Logic.{◌⊎◌, inl, inr}
use native.Mathlib.Omega.{arith}
use lib.Dec.{leb, ltb, eqb}
use borrow.Author.Tests.{leb-true, leb-false, ltb-true, ltb-false, eqb-true, eqb-false}

pub bool_cases : (t : Bool) → (t ≡ true) ⊎ (t ≡ false)
bool_cases true = inl refl
bool_cases false = inr refl

pub leb-cases : (a b : ℕ) → ((a ≤ b) × (leb a b ≡ true)) ⊎ ((b < a) × (leb a b ≡ false))
leb-cases a b = go (leb a b) refl
  where
    go : (t : Bool) → leb a b ≡ t → ((a ≤ b) × (leb a b ≡ true)) ⊎ ((b < a) × (leb a b ≡ false))
    go true q = inl (leb-true a b q, q)
    go false q = inr (leb-false a b q, q)

pub ltb-cases : (a b : ℕ) → ((a < b) × (ltb a b ≡ true)) ⊎ ((b ≤ a) × (ltb a b ≡ false))
ltb-cases a b = go (ltb a b) refl
  where
    go : (t : Bool) → ltb a b ≡ t → ((a < b) × (ltb a b ≡ true)) ⊎ ((b ≤ a) × (ltb a b ≡ false))
    go true q = inl (ltb-true a b q, q)
    go false q = inr (ltb-false a b q, q)

pub eqb-cases : (a b : ℕ) → ((a ≡ b) × (eqb a b ≡ true)) ⊎ ((a ≡ b → ⊥) × (eqb a b ≡ false))
eqb-cases a b = go (eqb a b) refl
  where
    go : (t : Bool) → eqb a b ≡ t → ((a ≡ b) × (eqb a b ≡ true)) ⊎ ((a ≡ b → ⊥) × (eqb a b ≡ false))
    go true q = inl (eqb-true a b q, q)
    go false q = inr (eqb-false a b q, q)

-- two constructors are never equal: `zero-not-one (cc)`, with an equation of the two in scope
pub zero-not-one : ◌≡◌ {A = ℕ} 0 1 → ⊥
zero-not-one e = omega arith

pub never : {A : Type 0} → ◌≡◌ {A = Bool} false true → A
never e = absurd (zero-not-one (ap (λ (b : Bool). cond b 1 0) e))

-- what holds of both cases holds of their choice
pub by_cond : {A : Type 0} (P : A → Type 0) (t : Bool) {a b : A} → P a → P b → P (cond t a b)
by_cond P true p q = p
by_cond P false p q = q

-- of a chain of tests, each of which would answer a: where the whole is c and a is not, no test answered
pub past-cond : {A : Type 0} {a b c : A} (t : Bool) → (a ≡ c → ⊥) → cond t a b ≡ c → (t ≡ false) × (b ≡ c)
past-cond true other e = absurd (other e)
past-cond false other e = (refl, e)

-- of two tests, the second where the first passed
pub both_true : (t : Bool) {u : Bool} → cond t u false ≡ true → (t ≡ true) × (u ≡ true)
both_true true e = (refl, e)
both_true false e = never e

-- a test that is asked only where another holds
pub where-true : (t : Bool) {u : Bool} → cond t u true ≡ true → t ≡ true → u ≡ true
where-true true h e = h
where-true false h e = never e

-- a number that is none of those below m, nor m
pub up : (m : ℕ) {k : ℕ} → m ≤ k → (k ≡ m → ⊥) → m + 1 ≤ k
up m h n = omega arith

-- k is none of the numbers below m: what the last arm of a `match` is told after arms for 0, 1 and so on
abbrev pub NoneBelow : ℕ → ℕ → Type 0
NoneBelow zero k = Unit
NoneBelow (suc m) k = NoneBelow m k × (k ≡ m → ⊥)

pub past_all : (m k : ℕ) → NoneBelow m k → m ≤ k
past_all zero k r = omega arith
past_all (suc m) k r = let h = past_all m k r.0 in let n = r.1 in omega arith
