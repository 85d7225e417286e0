-- Laws of what stands after a point.
-- Assumes nothing.
use Prim.Native.Nat.{ℕ, ◌+◌, ◌-◌, ◌*◌, ◌/◌, ◌%◌, ◌≤◌, ◌<◌}
use mathlib.Core.Path.{◌≡◌, refl, sym, ◌∙◌}
use mathlib.Core.List.{List, [], ◌∷◌, ◌++◌}
use mathlib.Core.Logic.{⊎_elim}
use native.Mathlib.Omega.{arith}
use lib.ListN.{length, take, get_or}
use borrow.Author.Tests.{eq-eqb, ne_eqb}
use Rattle.lists.proofs.Cases.{eqb-cases}
use Rattle.slices.specs.Text.{text}
use Rattle.numbers.specs.Digits.{number_from}
use Rattle.numbers.proofs.Reading.{digit-range}
use Rattle.wholes.specs.Whole.{numeral}
use Rattle.amounts.specs.Texts.{decimals, pointed, fraction_text}
use Rattle.amounts.proofs.Digits.{AllDigits, numeral-digit}

-- f thousandths have no digit after the point, one, two or three
module _ (f : ℕ) where
  pub none_after : f ≡ 0 → decimals f ≡ []
  unfolding decimals
  none_after e = rw (eq-eqb f 0 e)

  module _ (some : f ≡ 0 → ⊥) where
    pub one-after : f % 100 ≡ 0 → decimals f ≡ numeral (f / 100) ∷ []
    unfolding decimals
    one-after e = rw (ne_eqb f 0 some, eq-eqb (f % 100) 0 e)

    module _ (more : f % 100 ≡ 0 → ⊥) where
      pub two-after : f % 10 ≡ 0 → decimals f ≡ numeral (f / 100) ∷ numeral (f / 10 % 10) ∷ []
      unfolding decimals
      two-after e = rw (ne_eqb f 0 some, ne_eqb (f % 100) 0 more, eq-eqb (f % 10) 0 e)

      pub three-after : (f % 10 ≡ 0 → ⊥) → decimals f ≡ numeral (f / 100) ∷ numeral (f / 10 % 10) ∷ numeral (f % 10) ∷ []
      unfolding decimals
      three-after e = rw (ne_eqb f 0 some, ne_eqb (f % 100) 0 more, ne_eqb (f % 10) 0 e)

-- a point before them
pub no-point : (f : ℕ) → f ≡ 0 → fraction_text f ≡ []
unfolding fraction_text pointed
no-point f e = rw (none_after f e)

pub point-first : (f : ℕ) {c : ℕ} {l : List ℕ} → decimals f ≡ c ∷ l → fraction_text f ≡ 0x2E ∷ c ∷ l
unfolding fraction_text pointed
point-first f e = rw e

-- ---- the number that they say

-- what digits after a point are worth, in thousandths
abbrev pub worth : List ℕ → ℕ
worth f = number_from 0 (take 3 (f ++ text "000"))

-- after digits before the point that say q
pub worth-after : (q : ℕ) (f : List ℕ) → length f ≤ 3 → number_from q (take 3 (f ++ text "000")) ≡ q * 1000 + worth f
unfolding number_from
worth-after q [] h = omega arith
worth-after q (a ∷ []) h = omega arith
worth-after q (a ∷ b ∷ []) h = omega arith
worth-after q (a ∷ b ∷ d ∷ []) h = omega arith
worth-after q (a ∷ b ∷ d ∷ g ∷ f) h = absurd (omega arith)

pub worth-small : (f : List ℕ) → AllDigits f → length f ≤ 3 → worth f < 1000
unfolding number_from AllDigits
worth-small [] p h = omega arith
worth-small (a ∷ []) p h = omega (arith, digit-range a p.0)
worth-small (a ∷ b ∷ []) p h = omega (arith, digit-range a p.0, digit-range b p.1.0)
worth-small (a ∷ b ∷ d ∷ []) p h = omega (arith, digit-range a p.0, digit-range b p.1.0, digit-range d p.1.1.0)
worth-small (a ∷ b ∷ d ∷ g ∷ f) p h = absurd (omega arith)

-- the four cases, as one to go by
data After (f : ℕ) : List ℕ → Type 0 where
  none : f ≡ 0 → After f []
  one : (f ≡ 0 → ⊥) → f % 100 ≡ 0 → After f (numeral (f / 100) ∷ [])
  two : (f ≡ 0 → ⊥) → (f % 100 ≡ 0 → ⊥) → f % 10 ≡ 0 → After f (numeral (f / 100) ∷ numeral (f / 10 % 10) ∷ [])
  three : (f ≡ 0 → ⊥) → (f % 100 ≡ 0 → ⊥) → (f % 10 ≡ 0 → ⊥) → After f (numeral (f / 100) ∷ numeral (f / 10 % 10) ∷ numeral (f % 10) ∷ [])

after : (f : ℕ) → After f (decimals f)
after f =
    ⊎_elim (λ x. rw (none_after f x.0) (none x.0))
    (λ x.
    ⊎_elim (λ y. rw (one-after f x.0 y.0) (one x.0 y.0))
    (λ y.
    ⊎_elim (λ z. rw (two-after f x.0 y.0 z.0) (two x.0 y.0 z.0)) (λ z. rw (three-after f x.0 y.0 z.0) (three x.0 y.0 z.0)) (eqb-cases (f % 10) 0))
    (eqb-cases (f % 100) 0))
    (eqb-cases f 0)

-- at most three digits, which say f, and the last of which is no zero
pub record Told (f : ℕ) (l : List ℕ) : Type 0 where
  pub all : AllDigits l
  pub few : length l ≤ 3
  pub says : worth l ≡ f
  pub trailing : get_or l (length l - 1) 0 ≡ 0x30 → ⊥

pub decimals-told : (f : ℕ) → f < 1000 → Told f (decimals f)
unfolding AllDigits number_from
decimals-told f h = by (after f)
  where
    by : {l : List ℕ} → After f l → Told f l
    by (none x) = record { all = tt; few = omega arith; says = sym x; trailing = λ e. omega (arith, e) }
    by (one x y) = record { all = (numeral-digit (f / 100) (omega arith), tt); few = omega arith; says = omega (arith, y); trailing = λ e. omega (arith, e) }
    by (two x y z) =
        record {
          all = (numeral-digit (f / 100) (omega arith), (numeral-digit (f / 10 % 10) (omega arith), tt));
          few = omega arith;
          says = omega arith;
          trailing = λ e. y (omega (arith, e));
        }
    by (three x y z) =
        record {
          all = (numeral-digit (f / 100) (omega arith), (numeral-digit (f / 10 % 10) (omega arith), (numeral-digit (f % 10) (omega arith), tt)));
          few = omega arith;
          says = omega arith;
          trailing = λ e. z (omega (arith, e));
        }

-- there is but one such list
pub decimals-only : (f : ℕ) (l : List ℕ) → Told f l → l ≡ decimals f
unfolding AllDigits number_from
decimals-only f [] t = sym (none_after f (sym t.says))
decimals-only f (a ∷ []) t =
    let p = digit-range a t.all.0 in
    let e = t.says in
    let x : f ≡ 0 → ⊥ = λ o. t.trailing (omega arith) in
    let d : numeral (f / 100) ≡ a = omega arith in
    sym (one-after f x (omega arith) ∙ rw d)
decimals-only f (a ∷ b ∷ []) t =
    let p = digit-range a t.all.0 in
    let q = digit-range b t.all.1.0 in
    let e = t.says in
    let d : numeral (f / 100) ≡ a = omega arith in
    let g : numeral (f / 10 % 10) ≡ b = omega arith in
    let x : f ≡ 0 → ⊥ = λ o. t.trailing (omega arith) in
    let y : f % 100 ≡ 0 → ⊥ = λ o. t.trailing (omega arith) in
    sym (two-after f x y (omega arith) ∙ rw (d, g))
decimals-only f (a ∷ b ∷ c ∷ []) t =
    let p = digit-range a t.all.0 in
    let q = digit-range b t.all.1.0 in
    let r = digit-range c t.all.1.1.0 in
    let e = t.says in
    let d : numeral (f / 100) ≡ a = omega arith in
    let g : numeral (f / 10 % 10) ≡ b = omega arith in
    let k : numeral (f % 10) ≡ c = omega arith in
    let z : f % 10 ≡ 0 → ⊥ = λ o. t.trailing (omega arith) in
    let y : f % 100 ≡ 0 → ⊥ = λ o. z (omega arith) in
    sym (three-after f (λ o. z (omega arith)) y z ∙ rw (d, g, k))
decimals-only f (a ∷ b ∷ c ∷ d ∷ l) t = absurd (omega (arith, t.few))

fewest : (l : List ℕ) {m : List ℕ} → After (worth l) m → length m ≤ length l
unfolding number_from
fewest l (none x) = omega arith
fewest [] (one x y) = absurd (x refl)
fewest (a ∷ l) (one x y) = omega arith
fewest [] (two x y z) = absurd (x refl)
fewest (a ∷ []) (two x y z) = absurd (y (omega arith))
fewest (a ∷ b ∷ l) (two x y z) = omega arith
fewest [] (three x y z) = absurd (x refl)
fewest (a ∷ []) (three x y z) = absurd (y (omega arith))
fewest (a ∷ b ∷ []) (three x y z) = absurd (z (omega arith))
fewest (a ∷ b ∷ c ∷ l) (three x y z) = omega arith

-- and no digits that are worth as much are fewer
pub decimals-least : (l : List ℕ) → length (decimals (worth l)) ≤ length l
decimals-least l = fewest l (after (worth l))

pub pointed-le : (l m : List ℕ) → length l ≤ length m → length (pointed l) ≤ length (pointed m)
unfolding pointed
pointed-le [] m h = omega arith
pointed-le (a ∷ l) [] h = absurd (omega arith)
pointed-le (a ∷ l) (b ∷ m) h = omega arith
