-- What the test `well_made` tells of a table, and that the structure tables pass it.
-- Assumes nothing.
use mathlib.Core.Path.{◌≡◌, refl, sym, ◌∙◌}
use mathlib.Core.Bool.{Bool, true, false, ◌&&◌, not}
use mathlib.Core.List.{List, [], ◌∷◌}
use Prim.Native.Nat.{ℕ, zero, suc, ◌+◌, ◌≤◌, ◌<◌}
use native.Mathlib.Omega.{arith}
use lib.Dec.{eqb, leb, ltb}
use lib.ListN.{length, get_or}
use borrow.Author.Tests.{eq-eqb, leb-true, ltb-true, eqb-true, not-true}
use Rattle.lists.proofs.Cases.{zero-not-one}
use Rattle.slices.specs.Same.{same}
use Rattle.elements.specs.Names.{names, number_in, element_no}
use Rattle.structure.specs.Rows.{name_of, parent_of, repeated}
use Rattle.guideline.specs.Kinds.{is_kind}
use Rattle.guideline.specs.Rows.{beschaffungsanforderung, kostenblatt, network_constraint_document, rows_of}
use Rattle.guideline.proofs.Each.{of-kind}
use Rattle.trees.specs.Trees.{unlike, later_well_made, well_made}

-- the rows of each kind pass
pub well-made : (kind : ℕ) → is_kind kind ≡ true → well_made (rows_of kind) ≡ true
unfolding well_made later_well_made unlike rows_of beschaffungsanforderung kostenblatt network_constraint_document element_no number_in names same name_of parent_of repeated
well-made = of-kind (λ k. well_made (rows_of k)) refl

-- two rows of one row bear different names
abbrev pub Apart : List ℕ → ℕ → ℕ → Type 0
Apart t i j = parent_of (get_or t j 0) ≡ parent_of (get_or t i 0) → name_of (get_or t j 0) ≡ name_of (get_or t i 0) → ⊥

pub record Made (t : List ℕ) : Type 0 where
  pub some-row : 0 < length t
  pub outermost : length t ≤ parent_of (get_or t 0 0)
  pub once : repeated (get_or t 0 0) ≡ false
  pub named : name_of (get_or t 0 0) ≡ 255
  pub before : (i : ℕ) → 0 < i → i < length t → parent_of (get_or t i 0) < i
  pub apart : (i j : ℕ) → 0 < i → i < j → j < length t → Apart t i j

pub both : (a b : Bool) → a && b ≡ true → (a ≡ true) × (b ≡ true)
both true true e = (refl, refl)
both true false e = absurd (zero-not-one (cc))
both false true e = absurd (zero-not-one (cc))
both false false e = absurd (zero-not-one (cc))

unlike-tells : (w v : ℕ) (ws : List ℕ) → unlike w (v ∷ ws) ≡ true
    → (eqb (parent_of v) (parent_of w) && eqb (name_of v) (name_of w) ≡ false) × (unlike w ws ≡ true)
unfolding unlike
unlike-tells w v ws e =
    let same = eqb (parent_of v) (parent_of w) && eqb (name_of v) (name_of w) in
    let a = both (not same) (unlike w ws) e in
    (not-true same a.0, a.1)

later-tells : (i w : ℕ) (ws : List ℕ) → later_well_made i (w ∷ ws) ≡ true
    → (parent_of w < i) × (unlike w ws ≡ true) × (later_well_made (i + 1) ws ≡ true)
unfolding later_well_made
later-tells i w ws e =
    let before = ltb (parent_of w) i in
    let other = not (eqb (name_of w) 255) in
    let a = both (before && other && unlike w ws) (later_well_made (i + 1) ws) e in
    let b = both (before && other) (unlike w ws) a.0 in
    (ltb-true (parent_of w) i (both before other b.0).0, b.1, a.1)

apart_from : (w : ℕ) (ws : List ℕ) → unlike w ws ≡ true → (k : ℕ) → k < length ws
    → parent_of (get_or ws k 0) ≡ parent_of w → name_of (get_or ws k 0) ≡ name_of w → ⊥
apart_from w [] e k h p n = absurd (omega arith)
apart_from w (v ∷ ws) e zero h p n =
    let a : eqb (parent_of v) (parent_of w) && eqb (name_of v) (name_of w) ≡ true
    = rw (eq-eqb (parent_of v) (parent_of w) p, eq-eqb (name_of v) (name_of w) n) refl in
    let z : true ≡ false = sym a ∙ (unlike-tells w v ws e).0 in
    absurd (zero-not-one (cc))
apart_from w (v ∷ ws) e (suc k) h p n = apart_from w ws (unlike-tells w v ws e).1 k (omega arith) p n

before_at : (i : ℕ) (ws : List ℕ) → later_well_made i ws ≡ true → (k : ℕ) → k < length ws → parent_of (get_or ws k 0) < i + k
before_at i [] e k h = absurd (omega arith)
before_at i (w ∷ ws) e zero h = omega (arith, (later-tells i w ws e).0)
before_at i (w ∷ ws) e (suc k) h = omega (arith, before_at (i + 1) ws (later-tells i w ws e).2 k (omega arith))

apart-at : (i : ℕ) (ws : List ℕ) → later_well_made i ws ≡ true → (k m : ℕ) → k < m → m < length ws → Apart ws k m
apart-at i [] e k m l h p n = absurd (omega arith)
apart-at i (w ∷ ws) e k zero l h p n = absurd (omega arith)
apart-at i (w ∷ ws) e zero (suc m) l h p n = apart_from w ws (later-tells i w ws e).1 m (omega arith) p n
apart-at i (w ∷ ws) e (suc k) (suc m) l h p n = apart-at (i + 1) ws (later-tells i w ws e).2 k m (omega arith) (omega arith) p n

before-in : (w : ℕ) (ws : List ℕ) → later_well_made 1 ws ≡ true → (i : ℕ) → 0 < i → i < length (w ∷ ws) → parent_of (get_or (w ∷ ws) i 0) < i
before-in w ws e zero a b = absurd (omega arith)
before-in w ws e (suc i) a b = omega (arith, before_at 1 ws e i (omega arith))

apart_in : (w : ℕ) (ws : List ℕ) → later_well_made 1 ws ≡ true → (i j : ℕ) → 0 < i → i < j → j < length (w ∷ ws) → Apart (w ∷ ws) i j
apart_in w ws e zero j a b c p n = absurd (omega arith)
apart_in w ws e (suc i) zero a b c p n = absurd (omega arith)
apart_in w ws e (suc i) (suc j) a b c p n = apart-at 1 ws e i j (omega arith) (omega arith) p n

pub made : (t : List ℕ) → well_made t ≡ true → Made t
unfolding well_made
made [] e = absurd (zero-not-one (cc))
made (w ∷ ws) e =
    let outer = leb (length (w ∷ ws)) (parent_of w) in
    let single = not (repeated w) in
    let a = both (outer && single && eqb (name_of w) 255) (later_well_made 1 ws) e in
    let b = both (outer && single) (eqb (name_of w) 255) a.0 in
    let c = both outer single b.0 in
    record {
      some-row = omega arith;
      outermost = leb-true (length (w ∷ ws)) (parent_of w) c.0;
      once = not-true (repeated w) c.1;
      named = eqb-true (name_of w) 255 b.1;
      before = before-in w ws a.1;
      apart = apart_in w ws a.1;
    }

module _ (t : List ℕ) (m : Made t) where
  -- also where the first of the two is row 0, which stands in no row
  pub always-apart : (i j : ℕ) → i < j → j < length t → Apart t i j
  always-apart zero j l h p n = absurd (omega (arith, m.before j l h, m.outermost, p))
  always-apart (suc i) j l h p n = m.apart (suc i) j (omega arith) l h p n

  -- what stands in row q comes after it
  pub child-after : (q n : ℕ) → q < length t → n < length t → parent_of (get_or t n 0) ≡ q → q < n
  child-after q zero a b e = absurd (omega (arith, m.outermost, e))
  child-after q (suc n) a b e = omega (arith, m.before (suc n) (omega arith) b, e)
