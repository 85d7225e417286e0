-- Laws of lists that know nothing of documents: the last of a list, cells that are stored into, and lists of which each passes a test. Assumes nothing.
use Prim.Native.Nat.{ℕ, zero, suc, ◌+◌, ◌-◌, ◌≤◌}
use mathlib.Core.Path.{◌≡◌, refl, sym, ap, subst, ◌∙◌}
use mathlib.Core.List.{List, [], ◌∷◌, ◌++◌}
use mathlib.Core.Logic.{◌↔◌, ⊎_elim}
use native.Mathlib.Omega.{arith}
use lib.ListN.{length, get_or, drop, replicate, length-replicate, get_or-replicate, get_or-eq_default, get_or-append}
use lib.Seq.{sets, sets-eq, get_or-append-add, get_or-drop}
use Rattle.lists.proofs.Cases.{ltb-cases, zero-not-one}
use Rattle.contents.specs.Legal.{All}
use Rattle.contents.specs.Shown.{last_of}

-- ---- the last

pub last-append : {A : Type 0} (d : A) (a b : List A) → last_of d (a ++ b) ≡ last_of (last_of d a) b
last-append d [] b = refl
last-append d (x ∷ a) b = last-append x a b

-- two lists that come to nothing
pub none_both : {A : Type 0} (a b : List A) → a ++ b ≡ [] → (a ≡ []) × (b ≡ [])
none_both [] b e = (refl, e)
none_both (x ∷ a) b e = absurd (zero-not-one (cc))

-- ---- cells

pub zero-all : {A : Type 0} (z : A) (n j : ℕ) → get_or (replicate n z) j z ≡ z
zero-all z n j =
    ⊎_elim
    (λ y. get_or-replicate n j z z y.0)
    (λ y. get_or-eq_default (replicate n z) z (rw length-replicate y.0))
    (ltb-cases j n)

-- stores from cell 0 on into cells that are z
pub sets-shown : {A : Type 0} (z : A) (n : ℕ) (vs : List A) → length vs ≤ n → (j : ℕ) → get_or (sets (replicate n z) 0 vs) j z ≡ get_or vs j z
sets-shown {A} z n vs h j =
    let c = replicate n z in
    let k = drop (0 + length vs) c in
    let e : sets c 0 vs ≡ vs ++ k = sets-eq vs c 0 (rw (length-replicate n z) (omega (arith, h))) in
    ap (λ (l : List A). get_or l j z) e
    ∙ ⊎_elim
    (λ y. get_or-append vs k z j y.0)
    (λ y.
    let b = y.0 in
    let d : j ≡ length vs + (j - length vs) = omega (arith, b) in
    ap (λ (m : ℕ). get_or (vs ++ k) m z) d
    ∙ get_or-append-add vs k (j - length vs) z
    ∙ get_or-drop (0 + length vs) c (j - length vs) z
    ∙ zero-all z n (0 + length vs + (j - length vs))
    ∙ sym (get_or-eq_default vs z b))
    (ltb-cases j (length vs))

-- what stands one place on
pub drop-next : (doc : List ℕ) (at b : ℕ) (l : List ℕ) → b ∷ l ≡ drop at doc → l ≡ drop (suc at) doc
drop-next [] zero b l e = absurd (zero-not-one (cc))
drop-next (c ∷ doc) zero b l e = cc
drop-next [] (suc at) b l e = absurd (zero-not-one (cc))
drop-next (c ∷ doc) (suc at) b l e = drop-next doc at b l e

-- ---- lists of which each passes

module _ {A : Type 0} where
  pub all_join : (P : A → Type 0) (a b : List A) → All P a → All P b → All P (a ++ b)
  unfolding All
  all_join P [] b h k = k
  all_join P (x ∷ a) b h k = (h.0, all_join P a b h.1 k)

  pub all_split : (P : A → Type 0) (a b : List A) → All P (a ++ b) → All P a × All P b
  unfolding All
  all_split P [] b h = (tt, h)
  all_split P (x ∷ a) b h = let k = all_split P a b h.1 in ((h.0, k.0), k.1)

  pub all_both : (P Q R : A → Type 0) (l : List A) → ((a : A) → P a → Q a → R a) → All P l → All Q l → All R l
  unfolding All
  all_both P Q R [] f h k = tt
  all_both P Q R (x ∷ l) f h k = (f x h.0 k.0, all_both P Q R l f h.1 k.1)

  pub all-change : (P Q : A → Type 0) (l : List A) → ((a : A) → P a → Q a) → All P l → All Q l
  all-change P Q l f h = all_both P P Q l (λ a u v. f a u) h h

-- two parts and what comes before them, each by a test of its own
pub joined : {A S U Z : Type 0} (P Q R : A → Type 0) (a b c l : List A) → l ≡ a ++ (b ++ c) → S ↔ All P a → U ↔ All Q b → Z ↔ All R c
    → ((z : A) → Q z ↔ P z) → ((z : A) → R z ↔ P z) → (S × U × Z) ↔ All P l
joined P Q R a b c l e s u z f g = (
  (λ h. subst (All P) (sym e)
      (all_join P a (b ++ c) (s.0 h.0) (all_join P b c (all-change Q P b (λ i k. (f i).0 k) (u.0 h.1)) (all-change R P c (λ i k. (g i).0 k) (z.0 h.2))))),
  (λ h.
      let k = all_split P a (b ++ c) (subst (All P) e h) in
      let m = all_split P b c k.1 in
      (s.1 k.0, u.1 (all-change P Q b (λ i k. (f i).1 k) m.0), z.1 (all-change P R c (λ i k. (g i).1 k) m.1))),
)
