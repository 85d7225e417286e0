-- What a walk over a content comes to: counts, the last Pos and the period, by what stands in the content. Assumes nothing.
use Prim.Native.Nat.{ℕ, ◌+◌}
use mathlib.Core.Path.{◌≡◌, refl, sym, ap, ◌∙◌}
use mathlib.Core.List.{List, [], ◌∷◌, ◌++◌, map}
use mathlib.Core.Bool.{Bool, true, false, cond, ◌&&◌, and_assoc}
use native.Mathlib.Omega.{arith}
use native.Mathlib.Nat.{add-zero}
use lib.Dec.{eqb}
use lib.ListN.{length, get_or}
use borrow.Author.Tests.{ne_eqb}
use Rattle.rules.specs.Rules.{position_fits}
use Rattle.characters.specs.Says.{says}
use Rattle.times.specs.Times.{interval}
use Rattle.columns.specs.Columns.{role_of}
use Rattle.trees.specs.Trees.{Trees, none, element}
use Rattle.contents.specs.Said.{TagSaid, bytes}
use Rattle.contents.specs.Legal.{has_role, has_form, those, Period, period_by, period_in, position_of, in_turn}
use Rattle.contents.specs.Shown.{last_of}
use Rattle.contents.proofs.Lists.{last-append}
use Rattle.contents.proofs.Elements.{always, Within, length-element, mapped-parts, own}
use Rattle.contents.proofs.Walk.{Tally, opened, walked}

-- ---- lists

pub turn-append : (kind n l : ℕ) (xs ys : List ℕ) → in_turn kind n l (xs ++ ys) ≡ in_turn kind n l xs && in_turn kind n (last_of l xs) ys
unfolding in_turn
turn-append kind n l [] ys = refl
turn-append kind n l (x ∷ xs) ys =
    ap (λ (b : Bool). position_fits kind n l x && b) (turn-append kind n x xs ys)
    ∙ sym (and_assoc (position_fits kind n l x) (in_turn kind n x xs) (in_turn kind n (last_of x xs) ys))

-- the period is the last that is said
period-last : (p : Period) (ss : List TagSaid) → period_in p ss ≡ last_of p (map (λ (s : TagSaid). period_by (interval (says (bytes s.v)))) ss)
unfolding period_in
period-last p [] = refl
period-last p (s ∷ ss) = period-last (period_by (interval (says (bytes s.v)))) ss

own-last : {A B : Type 0} (say : A → B) (t : Bool) (s : A) (d : B) → cond t (say s) d ≡ last_of d (map say (own t s))
own-last say true s d = refl
own-last say false s d = refl

pub one-or-none : (t : Bool) (m : ℕ) → cond t (m + 1) m ≡ m + cond t 1 0
one-or-none true m = refl
one-or-none false m = sym (add-zero m)

module _ (rows : List ℕ) where
  abbrev at : ℕ → ℕ
  at q = get_or rows q 0

  -- what an invariant is: kept by every start tag
  pub invariant : (I : Tally → Type 0) (R : ℕ → Type 0) → ((q : ℕ) (s : TagSaid) (y : Tally) → R q → I y → I (opened (at q) s y))
      → (c : Trees TagSaid) → Within R c → (y : Tally) → I y → I (walked rows c y)
  unfolding walked Within
  invariant I R g none h y i = i
  invariant I R g (element q s inner after) h y i =
      invariant I R g after h.2 (walked rows inner (opened (at q) s y)) (invariant I R g inner h.1 (opened (at q) s y) (g q s y h.0 i))

  -- what no start tag changes
  pub unchanged : {B : Type 0} (f : Tally → B) (R : ℕ → Type 0) → ((q : ℕ) (s : TagSaid) (y : Tally) → R q → f (opened (at q) s y) ≡ f y)
      → (c : Trees TagSaid) → Within R c → (y : Tally) → f (walked rows c y) ≡ f y
  unchanged f R g c h y = invariant (λ z. f z ≡ f y) R (λ q s z r e. g q s z r ∙ e) c h y refl

  -- what the start tags of a role count
  counted : (f : Tally → ℕ) (n : ℕ) (R : ℕ → Type 0)
      → ((q : ℕ) (s : TagSaid) (y : Tally) → R q → f (opened (at q) s y) ≡ cond (eqb (role_of (at q)) n) (f y + 1) (f y))
      → (c : Trees TagSaid) → Within R c → (y : Tally) → f (walked rows c y) ≡ f y + length (those (has_role n) rows c)
  unfolding walked Within those
  counted f n R g none h y = sym (add-zero (f y))
  counted f n R g (element q s inner after) h y =
      let y₁ = opened (at q) s y in
      let a = counted f n R g after h.2 (walked rows inner y₁) in
      let b = counted f n R g inner h.1 y₁ in
      let e = g q s y h.0 ∙ one-or-none (eqb (role_of (at q)) n) (f y) in
      let l = length-element rows n q s inner after in
      omega (arith, a, b, e, l)

  -- what the start tags that pass a test set
  kept : {B : Type 0} (f : Tally → B) (say : TagSaid → B) (test : ℕ → Bool) (R : ℕ → Type 0)
      → ((q : ℕ) (s : TagSaid) (y : Tally) → R q → f (opened (at q) s y) ≡ cond (test (at q)) (say s) (f y))
      → (c : Trees TagSaid) → Within R c → (y : Tally) → f (walked rows c y) ≡ last_of (f y) (map say (those test rows c))
  unfolding walked Within those
  kept f say test R g none h y = refl
  kept f say test R g (element q s inner after) h y =
      let y₁ = opened (at q) s y in
      let a = map say (own (test (at q)) s) in
      let b = map say (those test rows inner) in
      let c = map say (those test rows after) in
      let e : f y₁ ≡ last_of (f y) a = g q s y h.0 ∙ own-last say (test (at q)) s (f y) in
      kept f say test R g after h.2 (walked rows inner y₁)
      ∙ ap (λ l. last_of l c) (kept f say test R g inner h.1 y₁ ∙ ap (λ l. last_of l b) e)
      ∙ sym (last-append (last_of (f y) a) b c)
      ∙ sym (last-append (f y) a (b ++ c))
      ∙ ap (last_of (f y)) (sym (mapped-parts rows say test q s inner after))

  pub intervals-walked : (c : Trees TagSaid) (y : Tally) → (walked rows c y).intervals ≡ y.intervals + length (those (has_role 4) rows c)
  intervals-walked c y = counted (λ z. z.intervals) 4 (λ q. Unit {0}) (λ q s z h. refl) c (always c) y

  pub series-walked : (c : Trees TagSaid) (y : Tally) → (walked rows c y).series ≡ y.series + length (those (has_role 2) rows c)
  series-walked c y = counted (λ z. z.series) 2 (λ q. Unit {0}) (λ q s z h. refl) c (always c) y

  pub originals-walked : (c : Trees TagSaid) → Within (λ q. role_of (at q) ≡ 2 → ⊥) c → (y : Tally)
      → (walked rows c y).originals ≡ y.originals + length (those (has_role 5) rows c)
  originals-walked c h y = counted (λ z. z.originals) 5 (λ q. role_of (at q) ≡ 2 → ⊥) (λ q s z f. rw (ne_eqb (role_of (at q)) 2 f) refl) c h y

  pub first-walked : (c : Trees TagSaid) → Within (λ q. role_of (at q) ≡ 2 → ⊥) c → (y : Tally) → (walked rows c y).first ≡ y.first
  first-walked c h y = unchanged (λ z. z.first) (λ q. role_of (at q) ≡ 2 → ⊥) (λ q s z f. rw (ne_eqb (role_of (at q)) 2 f) refl) c h y

  pub last-walked : (c : Trees TagSaid) → Within (λ q. role_of (at q) ≡ 3 → ⊥) c → (y : Tally)
      → (walked rows c y).last ≡ last_of y.last (map position_of (those (has_role 9) rows c))
  last-walked c h y = kept (λ z. z.last) position_of (has_role 9) (λ q. role_of (at q) ≡ 3 → ⊥) (λ q s z f. rw (ne_eqb (role_of (at q)) 3 f) refl) c h y

  pub period-walked : (c : Trees TagSaid) (y : Tally) → (walked rows c y).period ≡ period_in y.period (those (has_form 6) rows c)
  period-walked c y =
      kept (λ z. z.period) (λ s. period_by (interval (says (bytes s.v)))) (has_form 6) (λ q. Unit {0}) (λ q s z h. refl) c (always c) y
      ∙ sym (period-last y.period (those (has_form 6) rows c))
