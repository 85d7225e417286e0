-- Two outcomes that a contract permits are equal.
-- Assumes nothing.
use Prim.Native.Nat.{ℕ}
use mathlib.Core.Path.{◌≡◌}
use mathlib.Core.List.{List}
use mathlib.Core.Bool.{Bool}
use Rattle.lists.proofs.Unique.{one}
use Rattle.slices.specs.Same.{same}
use Rattle.characters.specs.Says.{says}
use Rattle.guideline.specs.Rows.{every_row, rows_in}
use Rattle.guideline.specs.declared.Demands.{Demands}
use Rattle.guideline.specs.declared.Kind.{Kind}
use Rattle.guideline.specs.Kinds.{no_demands, kind_at, kind_of, fixed_for, takes_another, has_enough}

pub every-row-one : {r r' : List ℕ} → r ≡ every_row → r' ≡ every_row → r ≡ r'
every-row-one = one

pub none-one : {r r' : Demands} → r ≡ no_demands → r' ≡ no_demands → r ≡ r'
none-one = one

pub rows-of-one : (rows : List ℕ) (kind : ℕ) {r r' : List ℕ} → r ≡ rows_in rows kind → r' ≡ rows_in rows kind → r ≡ r'
rows-of-one rows kind = one

pub kind-at-one : (kind : ℕ) {r r' : Kind} → r ≡ kind_at kind → r' ≡ kind_at kind → r ≡ r'
kind-at-one kind = one

pub kind-of-root-one : (name : ℕ) {r r' : ℕ} → r ≡ kind_of name → r' ≡ kind_of name → r ≡ r'
kind-of-root-one name = one

pub is-fixed-one : (kind attribute : ℕ) (v : List ℕ) {r r' : Bool}
    → r ≡ same (fixed_for kind attribute) (says v) → r' ≡ same (fixed_for kind attribute) (says v) → r ≡ r'
is-fixed-one kind attribute v = one

pub takes-another-one : (kind n : ℕ) {r r' : Bool} → r ≡ takes_another kind n → r' ≡ takes_another kind n → r ≡ r'
takes-another-one kind n = one

pub has-enough-one : (kind n : ℕ) {r r' : Bool} → r ≡ has_enough kind n → r' ≡ has_enough kind n → r ≡ r'
has-enough-one kind n = one
