-- What is computed of the rows of every kind holds of the rows of any number. Assumes nothing.
use Prim.Native.Nat.{ℕ, zero, suc, ◌+◌, ◌<◌}
use mathlib.Core.Path.{◌≡◌, refl, sym, ap, ◌∙◌}
use mathlib.Core.List.{List, [], ◌∷◌}
use mathlib.Core.Bool.{Bool, true, false, cond}
use mathlib.Core.Logic.{◌⊎◌, inl, inr, ⊎_elim}
use native.Mathlib.Nat.{add-zero, zero-add}
use native.Mathlib.Omega.{arith}
use lib.Dec.{eqb}
use lib.ListN.{length, get_or}
use borrow.Author.Tests.{eqb-true}
use Rattle.lists.proofs.Cases.{bool_cases, both_true, eqb-cases, never}
use Rattle.slices.specs.Same.{same}
use Rattle.elements.specs.Names.{names, number_in, element_no}
use Rattle.columns.specs.Columns.{role_of}
use Rattle.guideline.specs.Kinds.{no_kind, kind_one, kind_two, kind_three, kind_at, is_kind, kind_of}
use Rattle.guideline.specs.Rows.{beschaffungsanforderung, kostenblatt, network_constraint_document, rows_of, every_row, rows_in}

-- a test of each kind
abbrev pub each_kind : (ℕ → Bool) → Bool
each_kind test = cond (test 1) (cond (test 2) (test 3) false) false

pub of-kind : (test : ℕ → Bool) → each_kind test ≡ true → (k : ℕ) → is_kind k ≡ true → test k ≡ true
unfolding is_kind
of-kind test t k known =
    ⊎_elim
    (λ (y : (k ≡ 1) × (eqb k 1 ≡ true)). rw y.0 (both_true (test 1) t).0)
    (λ (y : (k ≡ 1 → ⊥) × (eqb k 1 ≡ false)).
    let u = both_true (test 2) (both_true (test 1) t).1 in
    ⊎_elim
    (λ (z : (k ≡ 2) × (eqb k 2 ≡ true)). rw z.0 u.0)
    (λ (z : (k ≡ 2 → ⊥) × (eqb k 2 ≡ false)). rw (eqb-true k 3 (rw (y.1, z.1) at known)) u.1)
    (eqb-cases k 2))
    (eqb-cases k 1)

-- a number that is no kind has no rows
pub no_rows : (k : ℕ) → is_kind k ≡ false → rows_of k ≡ []
unfolding is_kind rows_of
no_rows k e =
    ⊎_elim
    (λ (y : eqb k 1 ≡ true). let z : ◌≡◌ {A = Bool} true false = rw y at e in never (ap (λ (b : Bool). cond b false true) z))
    (λ (y : eqb k 1 ≡ false).
    ⊎_elim
    (λ (z : eqb k 2 ≡ true). let u : ◌≡◌ {A = Bool} true false = rw (y, z) at e in never (ap (λ (b : Bool). cond b false true) u))
    (λ (z : eqb k 2 ≡ false). let u : eqb k 3 ≡ false = rw (y, z) at e in rw (y, z, u) refl)
    (bool_cases (eqb k 2)))
    (bool_cases (eqb k 1))

-- a test of the rows of each kind, and of no rows
abbrev pub each_table : (List ℕ → Bool) → Bool
each_table test = cond (test []) (each_kind (λ k. test (rows_of k))) false

pub of-table : (test : List ℕ → Bool) → each_table test ≡ true → (k : ℕ) → test (rows_of k) ≡ true
of-table test t k =
    let h = both_true (test []) t in
    ⊎_elim
    (λ (y : is_kind k ≡ true). of-kind (λ k. test (rows_of k)) h.1 k y)
    (λ (y : is_kind k ≡ false). rw (no_rows k y) h.0)
    (bool_cases (is_kind k))

-- 0 is no kind
pub kind-some : (k : ℕ) → is_kind k ≡ true → k ≡ 0 → ⊥
unfolding is_kind
kind-some k known e = never (rw e at known)

-- a root's name tells a kind, and any other name none
pub kind-told : (name : ℕ) → (kind_of name ≡ 0) ⊎ (is_kind (kind_of name) ≡ true)
unfolding kind_of is_kind
kind-told name =
    ⊎_elim
    (λ (y : eqb name kind_one.root ≡ true). inr (rw y refl))
    (λ (y : eqb name kind_one.root ≡ false).
    ⊎_elim
    (λ (z : eqb name kind_two.root ≡ true). inr (rw (y, z) refl))
    (λ (z : eqb name kind_two.root ≡ false).
    ⊎_elim
    (λ (u : eqb name kind_three.root ≡ true). inr (rw (y, z, u) refl))
    (λ (u : eqb name kind_three.root ≡ false). inl (rw (y, z, u) refl))
    (bool_cases (eqb name kind_three.root)))
    (bool_cases (eqb name kind_two.root)))
    (bool_cases (eqb name kind_one.root))

-- of the rows of all kinds those of a kind are its own
pub rows-in : (k : ℕ) → rows_in every_row k ≡ rows_of k
unfolding rows_in every_row rows_of kind_at kind_one kind_two kind_three no_kind beschaffungsanforderung kostenblatt network_constraint_document element_no number_in names same
rows-in k =
    ⊎_elim
    (λ (y : (k ≡ 1) × (eqb k 1 ≡ true)). rw y.0 refl)
    (λ (y : (k ≡ 1 → ⊥) × (eqb k 1 ≡ false)).
    ⊎_elim
    (λ (z : (k ≡ 2) × (eqb k 2 ≡ true)). rw z.0 refl)
    (λ (z : (k ≡ 2 → ⊥) × (eqb k 2 ≡ false)).
    ⊎_elim
    (λ (u : (k ≡ 3) × (eqb k 3 ≡ true)). rw u.0 refl)
    (λ (u : (k ≡ 3 → ⊥) × (eqb k 3 ≡ false)). rw (y.1, z.1, u.1) refl)
    (eqb-cases k 3))
    (eqb-cases k 2))
    (eqb-cases k 1)

-- the first row with a role
abbrev pub row_with : ℕ → List ℕ → ℕ
row_with role [] = 0
row_with role (w ∷ ws) = cond (eqb (role_of w) role) 0 (suc (row_with role ws))

-- each row, with its number, passes the test; the first of them has the number i
abbrev pub each_row : (ℕ → ℕ → Bool) → ℕ → List ℕ → Bool
each_row test i [] = true
each_row test i (w ∷ ws) = cond (test i w) (each_row test (suc i) ws) false

row_at : (test : ℕ → ℕ → Bool) (i : ℕ) (ws : List ℕ) → each_row test i ws ≡ true → (j : ℕ) → j < length ws → test (i + j) (get_or ws j 0) ≡ true
row_at test i [] e j h = absurd (omega arith)
row_at test i (w ∷ ws) e zero h = rw add-zero (both_true (test i w) e).0
row_at test i (w ∷ ws) e (suc j) h =
    let q : suc i + j ≡ i + suc j = omega arith in
    rw q at (row_at test (suc i) ws (both_true (test i w) e).1 j (omega arith))

pub row_of : (test : ℕ → ℕ → Bool) (ws : List ℕ) → each_row test 0 ws ≡ true → (j : ℕ) → j < length ws → test j (get_or ws j 0) ≡ true
row_of test ws e j h = ap (λ (k : ℕ). test k (get_or ws j 0)) (sym (zero-add j)) ∙ row_at test 0 ws e j h
