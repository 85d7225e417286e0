-- The row of a role, and a pair that is there or not. Assumes nothing.
use Prim.Native.Nat.{ℕ, suc, ◌+◌, ◌≤◌, ◌<◌}
use mathlib.Core.Path.{◌≡◌, refl, sym, ap, ◌∙◌}
use mathlib.Core.List.{List}
use mathlib.Core.Bool.{true, false, not, cond}
use native.Mathlib.Omega.{arith}
use native.Mathlib.Nat.{add-zero, zero-add}
use native.Mathlib.Numerals.{add-one}
use lib.ListN.{length, drop, get_or, drop_of_length-le, get_or-eq_default}
use lib.Seq.{drop-cons}
use lib.Dec.{eqb, ltb}
use Rattle.std.specs.declared.option.Option.{Option}
use Rattle.std.specs.declared.option.Option.TheVariants.{None, Some}
use Rattle.std.specs.List.{position_or_len}
use Rattle.std.specs.Option.{unwrap_or}
use Rattle.std.proofs.lemmas.List.Recursion.{is_position_or_len}
use Rattle.views.proofs.Slots.{first-or-end}
use borrow.Author.Tests.{eq-eqb, ne_eqb}
use Rattle.slices.specs.Part.{part_of}
use Rattle.columns.specs.Columns.{role_of}
use Rattle.drafts.specs.Draft.{is_no_pair, role_row}

-- ---- a pair

past : (pairs : List ℕ) (cell : ℕ) → length pairs ≤ cell → (get_or pairs cell 0 ≡ 0) × (get_or pairs (cell + 1) 0 ≡ 0)
past pairs cell h = (get_or-eq_default pairs 0 h, get_or-eq_default pairs 0 (omega (arith, h)))

pub none-past : (pairs : List ℕ) (cell : ℕ) → length pairs ≤ cell → false ≡ not (is_no_pair (get_or pairs cell 0) (get_or pairs (cell + 1) 0))
unfolding is_no_pair
none-past pairs cell h = let z = past pairs cell h in rw (z.0, z.1) refl

pub nothing-past : (t pairs : List ℕ) (cell : ℕ) → length pairs ≤ cell → part_of t 0 0 ≡ part_of t (get_or pairs cell 0) (get_or pairs (cell + 1) 0)
nothing-past t pairs cell h = let z = past pairs cell h in rw (z.0, z.1) refl

pub start-given : (a b : ℕ) → (a ≡ 0 → ⊥) → true ≡ not (is_no_pair a b)
unfolding is_no_pair
start-given a b d = rw (ne_eqb a 0 d) refl

pub length-given : (a b : ℕ) → a ≡ 0 → not (eqb b 0) ≡ not (is_no_pair a b)
unfolding is_no_pair
length-given a b z = rw (eq-eqb a 0 z) refl

-- ---- the row of a role

-- a role's row is the first place of the rows that has it
first-role : (role : ℕ) (rows : List ℕ) → role_row role rows ≡ position_or_len (λ w. eqb (role_of w) role) rows
unfolding role_row
first-role role rows =
    is_position_or_len (role_row role) (λ w. eqb (role_of w) role) refl
    (λ w ws. let e : suc (role_row role ws) ≡ 1 + role_row role ws = omega arith in rw e refl)
    rows

pub role-or-end : (role : ℕ) (rows : List ℕ) {o : Option ℕ} {n : ℕ} →
    o ≡ cond (ltb (position_or_len (λ w. eqb (role_of w) role) rows) (length rows)) (Some (position_or_len (λ w. eqb (role_of w) role) rows)) None →
    n ≡ unwrap_or o (length rows) → n ≡ role_row role rows
role-or-end role rows e u = u ∙ ap (λ (x : Option ℕ). unwrap_or x (length rows)) e ∙ first-or-end _ rows ∙ sym (first-role role rows)
