-- Tests that do not tell one digit from another. Assumes nothing.
use Prim.Native.Nat.{ℕ, zero, suc, ◌+◌, ◌≤◌, ◌<◌}
use mathlib.Core.Path.{◌≡◌, refl, sym, ap, ◌∙◌}
use mathlib.Core.List.{List, [], ◌∷◌, map}
use mathlib.Core.Bool.{Bool, true, false}
use mathlib.Core.Logic.{inl, inr, ⊎_elim}
use native.Mathlib.Omega.{arith}
use lib.Dec.{eqb}
use lib.ListN.{replicate}
use borrow.Author.Tests.{ne_eqb}
use Rattle.lists.proofs.Cases.{eqb-cases, zero-not-one}
use Rattle.slices.specs.Text.{text}
use Rattle.attributes.specs.Attribute.{quote, fit}
use Rattle.trims.specs.Trim.{space}
use Rattle.characters.specs.References.{digit}
use Rattle.numbers.proofs.Reading.{digit-range}
use Rattle.numbers.specs.Alike.{Like}

-- the test answers `a` at every digit
pub record At-digits {A : Type 0} (p : ℕ → A) (a : A) : Type 0 where
  pub each : (d : ℕ) → digit d ≡ true → p d ≡ a

-- n numbers from `from` on
abbrev up_to : ℕ → ℕ → List ℕ
up_to from zero = []
up_to from (suc n) = from ∷ up_to (suc from) n

among : {A : Type 0} (p : ℕ → A) (a : A) (n from d : ℕ) → map p (up_to from n) ≡ replicate n a → from ≤ d → d < from + n → p d ≡ a
among p a zero from d h l u = absurd (omega arith)
among p a (suc n) from d h l u =
    ⊎_elim
    (λ y. let q : p from ≡ a = cc in rw y.0 q)
    (λ y. let q : map p (up_to (suc from) n) ≡ replicate n a = cc in among p a n (suc from) d q (omega (arith, y.0)) (omega arith))
    (eqb-cases d from)

-- it is so where it is so of the ten
pub ten : {A : Type 0} (p : ℕ → A) (a : A) → map p (text "0123456789") ≡ replicate 10 a → At-digits p a
ten p a h = record { each = λ d e. let r = digit-range d e in among p a 10 0x30 d h r.0 (omega arith) }

pub like-test : {A : Type 0} {p : ℕ → A} {a : A} {c d : ℕ} → At-digits p a → Like c d → p c ≡ p d
like-test {p = p} b (inl e) = ap p e
like-test b (inr e) = b.each _ e.0 ∙ sym (b.each _ e.1)

pub blind-quote : At-digits quote false
unfolding quote
blind-quote = ten quote false refl

pub blind-fit : At-digits fit true
unfolding fit
blind-fit = ten fit true refl

pub blind-space : At-digits space false
unfolding space
blind-space = ten space false refl

-- being k, where k is no digit
module _ (k : ℕ) (h : digit k ≡ false) where
  other : (d : ℕ) → digit d ≡ true → d ≡ k → ⊥
  other d e q = let z : ◌≡◌ {A = Bool} true false = sym e ∙ ap digit q ∙ h in zero-not-one (cc)

  pub blind-mark : At-digits (λ b. eqb b k) false
  blind-mark = record { each = λ d e. ne_eqb d k (other d e) }
