-- In both tables a Qty comes once in each Interval: what the row that is due says of the Qty that is still to come. Assumes nothing.
use Prim.Native.Nat.{ℕ, ◌+◌, ◌<◌}
use mathlib.Core.Path.{◌≡◌, refl, sym, ◌∙◌}
use mathlib.Core.List.{List}
use mathlib.Core.Bool.{Bool, true, false, cond, not}
use mathlib.Core.Logic.{⊎_elim}
use native.Mathlib.Omega.{arith}
use lib.Dec.{eqb, ltb}
use lib.ListN.{length, get_or}
use borrow.Author.Tests.{eq-eqb, ne_eqb, lt-ltb, eqb-true, ltb-true, not-true}
use Rattle.std.specs.Prelude.{Some}
use Rattle.lists.proofs.Below.{every, below}
use Rattle.lists.proofs.Cases.{eqb-cases, zero-not-one, both_true, where-true}
use Rattle.slices.specs.Same.{same}
use Rattle.elements.specs.Names.{names, number_in, element_no}
use Rattle.structure.specs.Rows.{name_of, parent_of, required, repeated, ends_in, ends_at_once, start_of, end_of}
use Rattle.structure.proofs.Means.{start-means, end-means}
use Rattle.columns.specs.Columns.{role_of}
use Rattle.guideline.specs.Rows.{beschaffungsanforderung, kostenblatt, network_constraint_document, rows_of}
use Rattle.guideline.proofs.Each.{of-table}

-- an Interval is started and its Qty is still to come: the last row is an Interval that is open, or a Pos
unfoldable pub waits : ℕ → Bool → Bool
waits w o = cond (eqb (role_of w) 4) o (eqb (role_of w) 9)

-- what has to hold of it where a row with this role is due: a Pos and a Qty are waited for, and nothing else
unfoldable pub due : ℕ → Bool → Bool
due role b = cond (eqb role 9) b (cond (eqb role 10) b (not b))

-- row q, which is v, in the open row r, which is w, or behind it where it is closed
unfoldable start_test : List ℕ → ℕ → ℕ → ℕ → ℕ → Bool
start_test rows r w q v =
    cond (cond (eqb (parent_of v) r) (due (role_of v) (waits w true)) true)
    (cond (ltb r q) (cond (eqb (parent_of v) (parent_of w)) (due (role_of v) (waits w false)) true) true)
    false

-- row r, which is w: again; and that an Interval or a Pos is followed by a row that has to come in the same Interval, of which n is the next
unfoldable row_test : List ℕ → ℕ → ℕ → ℕ → Bool
row_test rows r w n =
    cond (cond (repeated w) (due (role_of w) (waits w false)) true)
    (cond (cond (eqb (role_of w) 4) (cond (ltb (r + 1) (length rows)) (cond (eqb (parent_of n) r) (required n) false) false) true)
    (cond (cond (eqb (role_of w) 9) (cond (ltb (r + 1) (length rows)) (cond (eqb (parent_of n) (parent_of w)) (required n) false) false) true)
    (cond (cond (eqb (role_of w) 4) (not (ends_at_once rows r)) true)
    (not (waits (get_or rows (parent_of w) 0) false))
    false) false) false)
    false

pub tested : List ℕ → Bool
tested rows =
    every
    (λ r. cond (row_test rows r (get_or rows r 0) (get_or rows (r + 1) 0)) (every (λ q. start_test rows r (get_or rows r 0) q (get_or rows q 0)) (length rows)) false)
    (length rows)

pub all_tested : (kind : ℕ) → tested (rows_of kind) ≡ true
unfolding tested row_test start_test due waits rows_of beschaffungsanforderung kostenblatt network_constraint_document element_no number_in names same name_of parent_of required repeated ends_at_once ends_in role_of
all_tested = of-table tested refl

five : (a b c d : Bool) {e : Bool} → cond a (cond b (cond c (cond d e false) false) false) false ≡ true
    → (a ≡ true) × (b ≡ true) × (c ≡ true) × (d ≡ true) × (e ≡ true)
five a b c d h =
    let p = both_true a h in
    let q = both_true b p.1 in
    let r = both_true c q.1 in
    let s = both_true d r.1 in
    (p.0, q.0, r.0, s.0, s.1)

three : (a b : Bool) {c : Bool} → cond a (cond b c false) false ≡ true → (a ≡ true) × (b ≡ true) × (c ≡ true)
three a b h = let p = both_true a h in let q = both_true b p.1 in (p.0, q.0, q.1)

waits-closed : (w : ℕ) → role_of w ≡ 4 → waits w false ≡ false
unfolding waits
waits-closed w h = rw h

pub waits-other : (w : ℕ) (o : Bool) → (role_of w ≡ 4 → ⊥) → waits w o ≡ eqb (role_of w) 9
unfolding waits
waits-other w o h = rw (ne_eqb (role_of w) 4 h)

-- a table that passes
module _ (rows : List ℕ) (pass : tested rows ≡ true) where
  abbrev at : ℕ → ℕ
  at r = get_or rows r 0

  row-test : (r : ℕ) → r < length rows → row_test rows r (at r) (at (r + 1)) ≡ true
  unfolding tested
  row-test r l = (both_true (row_test rows r (at r) (at (r + 1))) (below _ (length rows) pass r l)).0

  start-test : (r q : ℕ) → r < length rows → q < length rows → start_test rows r (at r) q (at q) ≡ true
  unfolding tested
  start-test r q l g = below _ (length rows) (both_true (row_test rows r (at r) (at (r + 1))) (below _ (length rows) pass r l)).1 q g

  -- a row that comes again
  again-due : (r : ℕ) → r < length rows → repeated (at r) ≡ true → due (role_of (at r)) (waits (at r) false) ≡ true
  unfolding row_test
  again-due r l e = where-true (repeated (at r)) (both_true (cond (repeated (at r)) (due (role_of (at r)) (waits (at r) false)) true) (row-test r l)).0 e

  open-due : (r q : ℕ) → r < length rows → q < length rows → parent_of (at q) ≡ r → due (role_of (at q)) (waits (at r) true) ≡ true
  unfolding start_test
  open-due r q l g e =
      where-true (eqb (parent_of (at q)) r)
      (both_true (cond (eqb (parent_of (at q)) r) (due (role_of (at q)) (waits (at r) true)) true) (start-test r q l g)).0 (eq-eqb (parent_of (at q)) r e)

  closed-due : (r q : ℕ) → r < length rows → q < length rows → r < q → parent_of (at q) ≡ parent_of (at r) → due (role_of (at q)) (waits (at r) false) ≡ true
  unfolding start_test
  closed-due r q l g b e =
      where-true (eqb (parent_of (at q)) (parent_of (at r)))
      (where-true (ltb r q)
      (both_true (cond (eqb (parent_of (at q)) r) (due (role_of (at q)) (waits (at r) true)) true) (start-test r q l g)).1 (lt-ltb r q b))
      (eq-eqb (parent_of (at q)) (parent_of (at r)) e)

  pub start-due : (r : ℕ) (o : Bool) (name q : ℕ) → start_of rows r o name ≡ Some q → due (role_of (at q)) (waits (at r) o) ≡ true
  start-due r true name q e =
      let d = start-means rows r name q true e in open-due r q d.0 d.1.within d.1.stands
  start-due r false name q e =
      let d = start-means rows r name q false e in
      ⊎_elim
      (λ g. rw g.itself (again-due r d.0 g.repeats))
      (λ g. closed-due r q d.0 g.1.within g.1.after g.1.stands)
      d.1

  -- what follows a row of an Interval: row r + 1 stands in p and has to come
  abbrev Follows : ℕ → ℕ → Type 0
  Follows r p = (r + 1 < length rows) × (parent_of (at (r + 1)) ≡ p) × (required (at (r + 1)) ≡ true)

  follows : (r p : ℕ) → cond (ltb (r + 1) (length rows)) (cond (eqb (parent_of (at (r + 1))) p) (required (at (r + 1))) false) false ≡ true → Follows r p
  follows r p h =
      let f = three (ltb (r + 1) (length rows)) (eqb (parent_of (at (r + 1))) p) h in
      (ltb-true (r + 1) (length rows) f.0, eqb-true (parent_of (at (r + 1))) p f.1, f.2)

  pub record RowFacts (r : ℕ) : Type 0 where
    pub interval : role_of (at r) ≡ 4 → Follows r r
    pub position : role_of (at r) ≡ 9 → Follows r (parent_of (at r))
    pub whole : role_of (at r) ≡ 4 → ends_at_once rows r ≡ false
    pub parent : waits (at (parent_of (at r))) false ≡ false

  pub row-facts : (r : ℕ) → r < length rows → RowFacts r
  unfolding row_test
  row-facts r l =
      let f = five
      (cond (repeated (at r)) (due (role_of (at r)) (waits (at r) false)) true)
      (cond (eqb (role_of (at r)) 4) (cond (ltb (r + 1) (length rows)) (cond (eqb (parent_of (at (r + 1))) r) (required (at (r + 1))) false) false) true)
      (cond (eqb (role_of (at r)) 9) (cond (ltb (r + 1) (length rows)) (cond (eqb (parent_of (at (r + 1))) (parent_of (at r))) (required (at (r + 1))) false) false) true)
      (cond (eqb (role_of (at r)) 4) (not (ends_at_once rows r)) true)
      (row-test r l) in
      record {
        interval = λ e. follows r r (where-true (eqb (role_of (at r)) 4) f.1 (eq-eqb (role_of (at r)) 4 e));
        position = λ e. follows r (parent_of (at r)) (where-true (eqb (role_of (at r)) 9) f.2 (eq-eqb (role_of (at r)) 9 e));
        whole = λ e. not-true (ends_at_once rows r) (where-true (eqb (role_of (at r)) 4) f.3 (eq-eqb (role_of (at r)) 4 e));
        parent = not-true (waits (at (parent_of (at r))) false) f.4;
      }

  -- an element of an Interval that has to come is missing
  unmet : (r q : ℕ) → Follows r q → ((j : ℕ) → r < j → j < length rows → parent_of (at j) ≡ q → required (at j) ≡ false) → ⊥
  unmet r q f c =
      let z : ◌≡◌ {A = Bool} true false = sym f.2 ∙ c (r + 1) (omega arith) f.0 f.1 in zero-not-one (cc)

  pub end-waits : (r : ℕ) (o : Bool) (name q : ℕ) → end_of rows r o name ≡ Some q → waits (at q) false ≡ waits (at r) o
  end-waits r true name q e =
      let d = end-means rows r name q true e in
      ⊎_elim
      (λ y. absurd (unmet r r ((row-facts r d.inside).interval y.0) (rw d.innermost at d.complete)))
      (λ y. rw d.innermost (waits-other (at r) false y.0 ∙ sym (waits-other (at r) true y.0)))
      (eqb-cases (role_of (at r)) 4)
  end-waits r false name q e =
      let d = end-means rows r name q false e in
      rw d.innermost
      ((row-facts r d.inside).parent
      ∙ ⊎_elim
      (λ y. sym (waits-closed (at r) y.0))
      (λ y.
      ⊎_elim
      (λ z. absurd (unmet r (parent_of (at r)) ((row-facts r d.inside).position z.0) (rw d.innermost at d.complete)))
      (λ z. sym (waits-other (at r) false y.0 ∙ z.1))
      (eqb-cases (role_of (at r)) 9))
      (eqb-cases (role_of (at r)) 4))
