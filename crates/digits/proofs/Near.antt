-- A value at the front of two lists that begin with the same bytes: it ends at the same place. Assumes nothing.
use Prim.Native.Nat.{ℕ, zero, suc, pred, ◌+◌, ◌≤◌, ◌<◌}
use mathlib.Core.Path.{◌≡◌, refl, sym, ap, ◌∙◌}
use mathlib.Core.List.{List, [], ◌∷◌}
use native.Mathlib.Omega.{arith}
use lib.ListN.{length}
use Rattle.std.specs.Prelude.{Option, Some}
use Rattle.slices.specs.Bytes.{byte}
use Rattle.slices.specs.Walk.{walk}
use Rattle.slices.proofs.Near.{Front}
use Rattle.characters.specs.Says.{referred, standing, met, char_of}
use Rattle.characters.proofs.Low.{char-near}
use Rattle.characters.proofs.Units.{reference-front, Unit', stands, refers, unit-is, unit-some}
use Rattle.attributes.specs.Attribute.{value_next, value_over, value}
use Rattle.attributes.proofs.Values.{met-amp, met-other}
use Rattle.escapes.proofs.Values.{not-long, Next, ended, passed, value-next, value-from}

-- what stands first in a value is read from its own bytes alone
pub met-front : (s s' : List ℕ) {c n : ℕ} → char_of (met s) ≡ Some (c, n) → n ≤ length s' → Front s s' n → met s' ≡ met s
met-front s s' {c} {n} e l h = let first = h 0 (omega (arith, unit-some s e)) in by (unit-is s e) first
  where
    by : Unit' s c n → byte s 0 ≡ byte s' 0 → met s' ≡ met s
    by (stands a q) z = met-other s' (λ y. a (z ∙ y)) ∙ ap standing (char-near s s' q h ∙ sym q) ∙ sym (met-other s a)
    by (refers a q) z = met-amp s' (sym z ∙ a) ∙ ap referred (reference-front s s' q l h ∙ sym q) ∙ sym (met-amp s a)

-- ---- a value up to its closing quote

module _ (q : ℕ) (small : q < 0x80) where
  abbrev pub value_from : ℕ → ℕ → List ℕ → Option ℕ
  value_from at k x = walk met (value_next q) value_over at k x

  -- it is closed by its quote
  closes : (x : List ℕ) (k at m i : ℕ) → value_from at k x ≡ Some m → i + at ≡ m + k → byte x i ≡ q
  unfolding walk value_over byte
  closes [] k at m i e z = absurd (not-long m e)
  closes (c ∷ x) (suc k) at m zero e z = let r = value-from q small x k at m e in absurd (omega arith)
  closes (c ∷ x) (suc k) at m (suc i) e z = closes x k at m i e (omega arith)
  closes (c ∷ x) zero at m i e z = by (value-next q small at c x m e) i z (closes x)
    where
      by : Next q small at c x m → (i : ℕ) → i + at ≡ m + 0 → ((k at m i : ℕ) → value_from at k x ≡ Some m → i + at ≡ m + k → byte x i ≡ q) → byte (c ∷ x) i ≡ q
      by (ended g u s y) zero z f = u
      by (ended g u s y) (suc i) z f = absurd (omega arith)
      by (passed d n g s y) zero z f = let r = value-from q small x (pred n) (at + n) m y in let l = unit-some (c ∷ x) g in absurd (omega arith)
      by (passed d n g s y) (suc i) z f = let l = unit-some (c ∷ x) g in f (pred n) (at + n) m i y (omega arith)

  pub value-closes : (x : List ℕ) (m : ℕ) → value q x ≡ Some m → byte x m ≡ q
  unfolding value
  value-closes x m e = closes x 0 0 m m e refl

  near : (x y : List ℕ) (k at m : ℕ) → m + k < at + length y → value_from at k x ≡ Some m → ((i : ℕ) → i + at ≤ m + k → byte x i ≡ byte y i) → value_from at k y ≡ Some m
  unfolding walk value_over byte
  near [] y k at m l e h = absurd (not-long m e)
  near (c ∷ x) [] k at m l e h = let r = value-from q small (c ∷ x) k at m e in absurd (omega arith)
  near (c ∷ x) (d ∷ y) (suc k) at m l e h = near x y k at m (omega arith) e (λ i g. h (suc i) (omega arith))
  near (c ∷ x) (d ∷ y) zero at m l e h = by (value-next q small at c x m e) (near x y)
    where
      by : Next q small at c x m → ((k at m : ℕ) → m + k < at + length y → value_from at k x ≡ Some m → ((i : ℕ) → i + at ≤ m + k → byte x i ≡ byte y i) → value_from at k y ≡ Some m)
          → value_from at zero (d ∷ y) ≡ Some m
      by (ended g u s z) f = rw (walk, met-front (c ∷ x) (d ∷ y) g (omega arith) (λ i v. h i (omega arith)), s) (ap Some z)
      by (passed ch n g s z) f =
          let r = value-from q small x (pred n) (at + n) m z in
          let u = unit-some (c ∷ x) g in
          rw (walk, met-front (c ∷ x) (d ∷ y) g (omega arith) (λ i v. h i (omega arith)), s)
          (f (pred n) (at + n) m (omega arith) z (λ i v. h (suc i) (omega arith)))

  pub value-near : (x y : List ℕ) (m : ℕ) → m < length y → value q x ≡ Some m → Front x y (m + 1) → value q y ≡ Some m
  unfolding value
  value-near x y m l e h = near x y 0 0 m (omega arith) e (λ i g. h i (omega arith))
