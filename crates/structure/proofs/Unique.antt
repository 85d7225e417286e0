-- Two outcomes that a contract permits are equal.
-- Assumes nothing.
use Prim.Native.Nat.{ℕ}
use mathlib.Core.Path.{◌≡◌}
use mathlib.Core.List.{List}
use mathlib.Core.Bool.{Bool}
use Rattle.std.specs.Prelude.{Option}
use Rattle.lists.proofs.Unique.{one}
use Rattle.structure.specs.Rows.{name_of, parent_of, required, repeated, start_of, end_of, ends_at_once, over_of}
use Rattle.structure.specs.Depth.{depth_of}

pub name-of-one : (w : ℕ) {r r' : ℕ} → r ≡ name_of w → r' ≡ name_of w → r ≡ r'
name-of-one w = one

pub parent-of-one : (w : ℕ) {r r' : ℕ} → r ≡ parent_of w → r' ≡ parent_of w → r ≡ r'
parent-of-one w = one

pub is-required-one : (w : ℕ) {r r' : Bool} → r ≡ required w → r' ≡ required w → r ≡ r'
is-required-one w = one

pub is-repeated-one : (w : ℕ) {r r' : Bool} → r ≡ repeated w → r' ≡ repeated w → r ≡ r'
is-repeated-one w = one

pub start-after-one : (t : List ℕ) (row : ℕ) (inside : Bool) (name : ℕ) {d d' : Option ℕ}
    → d ≡ start_of t row inside name → d' ≡ start_of t row inside name → d ≡ d'
start-after-one t row inside name = one

pub end-after-one : (t : List ℕ) (row : ℕ) (inside : Bool) (name : ℕ) {d d' : Option ℕ}
    → d ≡ end_of t row inside name → d' ≡ end_of t row inside name → d ≡ d'
end-after-one t row inside name = one

pub ends-at-once-one : (t : List ℕ) (row : ℕ) {r r' : Bool} → r ≡ ends_at_once t row → r' ≡ ends_at_once t row → r ≡ r'
ends-at-once-one t row = one

pub is-over-one : (t : List ℕ) (row : ℕ) (inside : Bool) {r r' : Bool} → r ≡ over_of t row inside → r' ≡ over_of t row inside → r ≡ r'
is-over-one t row inside = one

pub depth-after-one : (t : List ℕ) (row : ℕ) (inside : Bool) {r r' : ℕ} → r ≡ depth_of t row inside → r' ≡ depth_of t row inside → r ≡ r'
depth-after-one t row inside = one
