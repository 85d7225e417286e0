-- A value up to its closing quote, unit by unit: each unit says an XML character. Assumes nothing.
use Prim.Native.Nat.{ℕ, zero, suc, pred, ◌+◌, ◌≤◌, ◌<◌}
use mathlib.Core.Path.{◌≡◌, refl, ap, ◌∙◌}
use mathlib.Core.List.{List, [], ◌∷◌}
use mathlib.Core.Bool.{true, false}
use mathlib.Core.Logic.{⊎_elim}
use native.Mathlib.Omega.{arith}
use lib.Dec.{eqb}
use lib.ListN.{take}
use Rattle.std.specs.Prelude.{Option, Some, None}
use Rattle.lists.proofs.Cases.{bool_cases, eqb-cases, zero-not-one}
use Rattle.slices.specs.Bytes.{byte}
use Rattle.slices.specs.Walk.{go, stop, walk}
use Rattle.characters.specs.Utf8.{char_at}
use Rattle.characters.specs.References.{reference_at}
use Rattle.characters.specs.Says.{met, char_of, said_by, said_at, says_after, says}
use Rattle.characters.proofs.Low.{char-low}
use Rattle.characters.proofs.Units.{met-reference, met-standing, unit-some}
use Rattle.characters.proofs.Saying.{said-some, said-cut}
use Rattle.attributes.specs.Attribute.{fit, standing_next, referred_next, value_next, value_over, value}
use Rattle.attributes.proofs.Values.{met-amp, met-other}
use Rattle.escapes.proofs.Texts.{Xml}
use Rattle.escapes.proofs.Unescaping.{unit-xml}

pub not-long : (m : ℕ) → None ≡ Some m → ⊥
not-long m e = zero-not-one (cc)

module _ (q : ℕ) (small : q < 0x80) where
  abbrev pub value_from : ℕ → ℕ → List ℕ → Option ℕ
  value_from at k x = walk met (value_next q) value_over at k x

  -- what the next unit makes of a value of m bytes
  pub data Next (at c : ℕ) (x : List ℕ) (m : ℕ) : Type 0 where
    ended : char_of (met (c ∷ x)) ≡ Some (q, 1) → c ≡ q → value_next q at (met (c ∷ x)) ≡ stop (Some at) → at ≡ m → Next at c x m
    passed : (d n : ℕ) → char_of (met (c ∷ x)) ≡ Some (d, n) → value_next q at (met (c ∷ x)) ≡ go n (at + n) → value_from (at + n) (pred n) x ≡ Some m → Next at c x m

  pub value-next : (at c : ℕ) (x : List ℕ) (m : ℕ) → value_from at 0 (c ∷ x) ≡ Some m → Next at c x m
  unfolding walk value_next referred_next standing_next byte
  value-next at c x m e = ⊎_elim (λ y. refers_to y.0 (reference_at (c ∷ x)) refl) (λ y. stands-as y.0 (char_at (c ∷ x)) refl) (eqb-cases c 0x26)
    where
      refers_to : c ≡ 0x26 → (z : Option (ℕ × ℕ)) → reference_at (c ∷ x) ≡ z → Next at c x m
      refers_to a None g = let f : None ≡ Some m = rw (walk, met-amp (c ∷ x) a, g) at e in absurd (not-long m f)
      refers_to a (Some (d, n)) g = passed d n (met-reference (c ∷ x) a ∙ g) (rw (met-amp (c ∷ x) a, g)) (rw (walk, met-amp (c ∷ x) a, g) at e)

      stands-as : (c ≡ 0x26 → ⊥) → (z : Option (ℕ × ℕ)) → char_at (c ∷ x) ≡ z → Next at c x m
      stands-as a None g = let f : None ≡ Some m = rw (walk, met-other (c ∷ x) a, g) at e in absurd (not-long m f)
      stands-as a (Some (d, n)) g =
          let w = met-other (c ∷ x) a in
          ⊎_elim
          (λ (t : fit d ≡ true).
          ⊎_elim
          (λ (u : (d ≡ q) × (eqb d q ≡ true)).
          let own = char-low (c ∷ x) g (omega (arith, u.0)) in
          let f : Some at ≡ Some m = rw (walk, w, g, t, u.1) at e in
          ended (met-standing (c ∷ x) a ∙ g ∙ ap (λ (k : ℕ). Some (k, n)) u.0 ∙ ap (λ (k : ℕ). Some (q, k)) own.1) (own.0 ∙ u.0) (rw (w, g, t, u.1)) (cc))
          (λ (u : (d ≡ q → ⊥) × (eqb d q ≡ false)). passed d n (met-standing (c ∷ x) a ∙ g) (rw (w, g, t, u.1)) (rw (walk, w, g, t, u.1) at e))
          (eqb-cases d q))
          (λ (t : fit d ≡ false). let f : None ≡ Some m = rw (walk, w, g, t) at e in absurd (not-long m f))
          (bool_cases (fit d))

  pub value-from : (x : List ℕ) (k at m : ℕ) → value_from at k x ≡ Some m → at ≤ m
  unfolding walk value_over
  value-from [] k at m e = absurd (not-long m e)
  value-from (c ∷ x) (suc k) at m e = value-from x k at m e
  value-from (c ∷ x) zero at m e = by (value-next at c x m e) (value-from x)
    where
      by : Next at c x m → ((k at m : ℕ) → value_from at k x ≡ Some m → at ≤ m) → at ≤ m
      by (ended g z s y) f = omega arith
      by (passed d n g s z) f = let r = f (pred n) (at + n) m z in omega arith

  -- i bytes of x are left of the value
  xml-from : (x : List ℕ) (k at m i : ℕ) → value_from at k x ≡ Some m → i + at ≡ m + k → Xml (says_after k (take i x))
  unfolding walk value_over says_after Xml said_by
  xml-from [] k at m i e z = absurd (not-long m e)
  xml-from (c ∷ x) (suc k) at m zero e z = let r = value-from x k at m e in absurd (omega arith)
  xml-from (c ∷ x) (suc k) at m (suc i) e z = xml-from x k at m i e (omega arith)
  xml-from (c ∷ x) zero at m zero e z = tt
  xml-from (c ∷ x) zero at m (suc i) e z = by (value-next at c x m e) (xml-from x)
    where
      by : Next at c x m → ((k at m i : ℕ) → value_from at k x ≡ Some m → i + at ≡ m + k → Xml (says_after k (take i x))) → Xml (says_after zero (c ∷ take i x))
      by (ended g u s y) f = absurd (omega arith)
      by (passed d n g s y) f =
          let r = value-from x (pred n) (at + n) m y in
          let l = unit-some (c ∷ x) g in
          let said : said_at (c ∷ x) ≡ Some (d, n) = said-some c x ∙ ap said_by g in
          let here : said_at (c ∷ take i x) ≡ Some (d, n) = said-cut (c ∷ x) (omega arith) said (suc i) (omega arith) in
          rw (says_after, here) (unit-xml (c ∷ x) g, f (pred n) (at + n) m i y (omega arith))

  pub value-xml : (x : List ℕ) (m : ℕ) → value q x ≡ Some m → Xml (says (take m x))
  unfolding value says
  value-xml x m e = xml-from x 0 0 m m e refl
