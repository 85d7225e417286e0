-- The attributes of a tag, read one by one from the front: what is counted, found or still borne, with one attribute more in front.
-- Assumes nothing.
use Prim.Native.Nat.{ℕ, suc, ◌+◌, ◌≤◌, ◌<◌}
use mathlib.Core.Path.{◌≡◌, refl, sym, ◌∙◌}
use mathlib.Core.List.{List, [], ◌∷◌}
use mathlib.Core.Bool.{Bool, true, false, cond}
use mathlib.Core.Logic.{⊎_elim}
use native.Mathlib.Omega.{arith}
use lib.ListN.{length}
use Rattle.lists.proofs.Cases.{bool_cases, by_cond}
use Rattle.slices.specs.Same.{same}
use Rattle.slices.proofs.Sames.{same_self, same-equal}
use Rattle.tags.specs.Tail.{Attr, Ends, closed, torn, onto, named, twice, twice_in}
use Rattle.repeats.specs.Bearers.{attributes_of, bearers, bears}

-- n so far, and what f counts of the attributes from here on; nothing where the tag is torn
unfoldable pub total : (List Attr → ℕ) → ℕ → Ends → ℕ
total f n (closed more empty m) = n + f more
total f n torn = 0

module _ (f : List Attr → ℕ) where
  pub total-start : f [] ≡ 0 → (e : Ends) → total f 0 e ≡ f (attributes_of e)
  unfolding total attributes_of
  total-start z (closed more empty m) = omega arith
  total-start z torn = sym z

  pub total-onto : (n k : ℕ) (a : Attr) → ((l : List Attr) → f (a ∷ l) ≡ k + f l) → (e : Ends) → total f n (onto a e) ≡ total f (n + k) e
  unfolding total onto
  total-onto n k a g (closed more empty m) = let h = g more in omega arith
  total-onto n k a g torn = refl

  pub total-closed : f [] ≡ 0 → (n m : ℕ) (empty : Bool) → total f n (closed [] empty m) ≡ n
  unfolding total
  total-closed z n m empty = omega arith

  pub total-torn : (n : ℕ) → total f n torn ≡ 0
  unfolding total
  total-torn n = refl

pub bearers-nil : (x : List ℕ) → bearers x [] ≡ 0
unfolding bearers
bearers-nil x = refl

pub bearers-cons : (x : List ℕ) (a : Attr) (l : List Attr) → bearers x (a ∷ l) ≡ cond (same x a.name) 1 0 + bearers x l
unfolding bearers
bearers-cons x a l = ⊎_elim (λ y. rw y (omega arith)) (λ n. rw n (omega arith)) (bool_cases (same x a.name))

-- t tells whether the name is that of the attribute, and k counts it
pub borne-here : {k : ℕ} {t : Bool} (x name : List ℕ) (a : Attr) → k ≡ cond t 1 0 → t ≡ same x name → name ≡ a.name
    → (l : List Attr) → bearers x (a ∷ l) ≡ k + bearers x l
borne-here x name a ek et en l = bearers-cons x a l ∙ rw (ek, et, en)

none-borne : (x : List ℕ) (l : List Attr) → bearers x l ≤ 0 → named x l ≡ false
unfolding bearers named
none-borne x [] h = refl
none-borne x (a ∷ more) h =
    ⊎_elim (λ y. absurd (let k = rw y at h in omega arith)) (λ n. rw n (none-borne x more (rw n at h))) (bool_cases (same x a.name))

one-borne : (x : List ℕ) (l : List Attr) → 0 < bearers x l → named x l ≡ true
unfolding bearers named
one-borne x [] h = absurd (omega arith)
one-borne x (a ∷ more) h =
    ⊎_elim (λ y. rw y) (λ n. rw n (one-borne x more (rw n at h))) (bool_cases (same x a.name))

-- a name that two attributes bear
pub two-borne : (x : List ℕ) (l : List Attr) → 2 ≤ bearers x l → twice l ≡ true
unfolding bearers twice
two-borne x [] h = absurd (omega arith)
two-borne x (a ∷ more) h =
    ⊎_elim
    (λ y. let k : 2 ≤ suc (bearers x more) = rw y at h in rw (rw (same-equal x a.name y) at (one-borne x more (omega arith))))
    (λ n. rw (two-borne x more (rw n at h)) (by_cond (λ t. t ≡ true) (named a.name more) refl refl))
    (bool_cases (same x a.name))

pub twice-in : (e : Ends) → twice_in e ≡ twice (attributes_of e)
unfolding twice_in attributes_of twice
twice-in (closed more empty m) = refl
twice-in torn = refl

pub twice-few : (e : Ends) (n : ℕ) → n ≡ length (attributes_of e) → n < 2 → false ≡ twice_in e
unfolding twice_in attributes_of twice named
twice-few (closed [] empty m) n q h = refl
twice-few (closed (a ∷ []) empty m) n q h = refl
twice-few (closed (a ∷ (b ∷ more)) empty m) n q h = absurd (omega arith)
twice-few torn n q h = refl

-- the name of an attribute is looked for in what comes after it
pub found_after : (a : Attr) (e : Ends) → 0 < bearers a.name (attributes_of e) → twice_in (onto a e) ≡ true
unfolding twice_in onto attributes_of twice
found_after a (closed more empty m) h = rw (one-borne a.name more h)
found_after a torn h = absurd (let k = bearers-nil a.name in omega arith)

pub none_after : (a : Attr) (e : Ends) → bearers a.name (attributes_of e) ≤ 0 → twice_in (onto a e) ≡ twice_in e
unfolding twice_in onto attributes_of twice
none_after a (closed more empty m) h = rw (none-borne a.name more h)
none_after a torn h = refl

pub twice_closed : (empty : Bool) (m : ℕ) → twice_in (closed [] empty m) ≡ false
unfolding twice_in twice
twice_closed empty m = refl

pub twice-torn : twice_in torn ≡ false
unfolding twice_in
twice-torn = refl

-- k attributes bear the name x
pub told-twice : (x : List ℕ) (e : Ends) (k : ℕ) → k ≡ bearers x (attributes_of e) → 2 ≤ k → true ≡ twice_in e
told-twice x e k q h = sym (twice-in e ∙ two-borne x (attributes_of e) (rw q at h))

pub bears-here : (a : Attr) (e : Ends) → bears a.name (onto a e) ≡ true
unfolding bears onto named
bears-here a (closed more empty m) = rw (same_self a.name)
bears-here a torn = refl

pub bears-more : (x : List ℕ) (a : Attr) (e : Ends) → bears x e ≡ true → bears x (onto a e) ≡ true
unfolding bears onto named
bears-more x a (closed more empty m) b = rw b (by_cond (λ t. t ≡ true) (same x a.name) refl refl)
bears-more x a torn b = refl
