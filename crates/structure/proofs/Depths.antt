-- How many elements are open: the loop that counts them, and what a start tag and an end tag that are due make of the count.
-- Assumes nothing.
use Prim.Native.Nat.{ℕ, zero, suc, ◌+◌, ◌≤◌, ◌<◌}
use mathlib.Core.Path.{◌≡◌, refl, sym, ap, ◌∙◌}
use mathlib.Core.List.{List}
use mathlib.Core.Bool.{Bool, true, false}
use mathlib.Core.Logic.{⊎_elim}
use native.Mathlib.Nat.{zero-add}
use native.Mathlib.Omega.{arith}
use lib.ListN.{length, get_or}
use borrow.Author.Tests.{ne_eqb, eqb-true}
use Rattle.std.specs.Prelude.{Option, Some, None}
use Rattle.lists.proofs.Cases.{eqb-cases, never}
use Rattle.structure.specs.Rows.{name_of, parent_of, repeated, start_of, end_of, closes_document, over_of}
use Rattle.structure.specs.Depth.{height_in, depth_of}
use Rattle.structure.proofs.Means.{start-means, end-means}

height-more : (k : ℕ) (t : List ℕ) (r : ℕ) → (r ≡ 0 → ⊥) → height_in (suc k) t r ≡ suc (height_in k t (parent_of (get_or t r 0)))
unfolding height_in
height-more k t r f = rw (ne_eqb r 0 f) refl

height-none : (k : ℕ) (t : List ℕ) → height_in k t 0 ≡ 0
unfolding height_in
height-none zero t = refl
height-none (suc k) t = refl

-- no more than are counted
pub height-le : (k : ℕ) (t : List ℕ) (r : ℕ) → height_in k t r ≤ k
unfolding height_in
height-le zero t r = omega arith
height-le (suc k) t r =
    ⊎_elim (λ y. rw y.1 (omega arith)) (λ y. rw y.1 (omega (arith, height-le k t (parent_of (get_or t r 0))))) (eqb-cases r 0)

pub depth_le : (t : List ℕ) (r : ℕ) (o : Bool) → depth_of t r o ≤ 16
unfolding depth_of
depth_le t r true = height-le 16 t r
depth_le t r false = height-le 16 t (parent_of (get_or t r 0))

-- ---- the loop: n are counted, and r is the next
pub record Climbed (t : List ℕ) (row n r : ℕ) : Type 0 where
  pub k : ℕ
  pub sum : n + k ≡ 16
  pub all : n + height_in k t r ≡ height_in 16 t row

pub climb-start : (t : List ℕ) (row : ℕ) → Climbed t row 0 row
climb-start t row = record { k = 16; sum = zero-add 16; all = zero-add (height_in 16 t row) }

module _ (t : List ℕ) (row n r : ℕ) (c : Climbed t row n r) where
  pub climb-next : n < 16 → (r ≡ 0 → ⊥) → Climbed t row (n + 1) (parent_of (get_or t r 0))
  climb-next h f = go c.k c.sum c.all
    where
      go : (k : ℕ) → n + k ≡ 16 → n + height_in k t r ≡ height_in 16 t row → Climbed t row (n + 1) (parent_of (get_or t r 0))
      go zero s a = absurd (omega arith)
      go (suc k) s a = record { k = k; sum = omega arith; all = let e = height-more k t r f in omega arith }

  pub climb-top : r ≡ 0 → n ≡ height_in 16 t row
  climb-top z = let e : height_in c.k t r ≡ 0 = ap (height_in c.k t) z ∙ height-none c.k t in omega (arith, c.all)

  pub climb-end : 16 ≤ n → n ≡ height_in 16 t row
  climb-end h = let e = height-le c.k t r in omega (arith, c.all, c.sum)

-- ---- a table whose rows stand one in another, up to row 0, which bears the name 255, stands in a row that is none and does not come again
pub record Deep (t : List ℕ) : Type 0 where
  pub climbs : (i : ℕ) → (i ≡ 0 → ⊥) → i < length t → height_in 16 t i ≡ suc (height_in 16 t (parent_of (get_or t i 0)))
  pub inner : (i : ℕ) → (i ≡ 0 → ⊥) → i < length t → parent_of (get_or t i 0) ≡ parent_of (get_or t 0 0) → ⊥
  pub once : repeated (get_or t 0 0) ≡ false
  pub named : name_of (get_or t 0 0) ≡ 255

-- what is known of the row that a start tag takes
record Taken (t : List ℕ) (r : ℕ) (o : Bool) (q : ℕ) : Type 0 where
  stands : height_in 16 t (parent_of (get_or t q 0)) ≡ depth_of t r o
  other : q ≡ 0 → ⊥
  within : q < length t

module _ (t : List ℕ) (d : Deep t) (r x q : ℕ) where
  start-taken : (o : Bool) → start_of t r o x ≡ Some q → Taken t r o q
  unfolding depth_of
  start-taken true e =
      let n = (start-means t r x q true e).1 in
      record { stands = ap (height_in 16 t) n.stands; other = λ z. omega (arith, z, n.after); within = n.within }
  start-taken false e =
      let s = start-means t r x q false e in
      ⊎_elim
      (λ g.
      record {
        stands = ap (λ (i : ℕ). height_in 16 t (parent_of (get_or t i 0))) g.itself;
        other = λ z. never (sym d.once ∙ ap (λ (i : ℕ). repeated (get_or t i 0)) (sym z ∙ g.itself) ∙ g.repeats);
        within = omega (arith, s.0, g.itself);
      })
      (λ g.
      let n = g.1 in
      record { stands = ap (height_in 16 t) n.stands; other = λ z. omega (arith, z, n.after); within = n.within })
      s.1

  -- "An empty tag is a start and an end in one item": as many are open after it as before
  pub start-shut : (o : Bool) → start_of t r o x ≡ Some q → depth_of t q false ≡ depth_of t r o
  unfolding depth_of
  start-shut o e = (start-taken o e).stands

  pub start-open : (o : Bool) → start_of t r o x ≡ Some q → depth_of t q true ≡ suc (depth_of t r o)
  unfolding depth_of
  start-open o e = let k = start-taken o e in d.climbs q k.other k.within ∙ ap suc k.stands

  innermost-open : (o : Bool) → end_of t r o x ≡ Some q → depth_of t r o ≡ height_in 16 t q
  unfolding depth_of
  innermost-open true e = ap (height_in 16 t) (sym (end-means t r x q true e).innermost)
  innermost-open false e = ap (height_in 16 t) (sym (end-means t r x q false e).innermost)

  end-shut : (o : Bool) → end_of t r o x ≡ Some q → (q ≡ 0 → ⊥) → depth_of t r o ≡ suc (depth_of t q false)
  unfolding depth_of
  end-shut o e f = innermost-open o e ∙ d.climbs q f (end-means t r x q o e).within

  -- an end tag of an element closes no document
  pub end-one : (o : Bool) → end_of t r o x ≡ Some q → (x ≡ 255 → ⊥) → depth_of t r o ≡ suc (depth_of t q false)
  end-one o e f =
      end-shut o e (λ z. f (sym (end-means t r x q o e).named ∙ ap (λ (i : ℕ). name_of (get_or t i 0)) z ∙ d.named))

closes-first : (w : Option ℕ) (p : ℕ) → w ≡ Some p → closes_document w ≡ true → p ≡ 0
unfolding closes_document
closes-first w p e z = eqb-true p 0 (rw e at z)

closes-some : closes_document None ≡ false
unfolding closes_document
closes-some = refl

-- where the document may be over nothing is open
pub over_none : (t : List ℕ) (d : Deep t) (r : ℕ) (o : Bool) → over_of t r o ≡ true → depth_of t r o ≡ 0
unfolding over_of
over_none t d r o e = go (end_of t r o 255) refl e
  where
    go : (w : Option ℕ) → end_of t r o 255 ≡ w → closes_document w ≡ true → depth_of t r o ≡ 0
    go None q z = never (sym closes-some ∙ z)
    go (Some p) q z = innermost-open t d r 255 p o q ∙ ap (height_in 16 t) (closes-first (Some p) p refl z) ∙ height-none 16 t

-- before the root nothing is open, by any table
pub none_open : (t : List ℕ) (d : Deep t) (x q : ℕ) (o : Bool) → start_of t 0 o x ≡ Some q → depth_of t 0 o ≡ 0
unfolding depth_of
none_open t d x q true e = height-none 16 t
none_open t d x q false e =
    let s = start-means t 0 x q false e in
    ⊎_elim
    (λ g. never (sym d.once ∙ g.repeats))
    (λ g. let n = g.1 in absurd (d.inner q (λ z. omega (arith, z, n.after)) n.within n.stands))
    s.1
