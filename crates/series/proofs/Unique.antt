-- The contracts of this crate leave one possible answer and one possible content of the lent table. Assumes nothing.
use Prim.Native.Nat.{ℕ}
use mathlib.Core.Path.{◌≡◌}
use mathlib.Core.Bool.{Bool}
use mathlib.Core.List.{List}
use Rattle.lists.proofs.Unique.{one}
use Rattle.series.specs.declared.Field.{Field}
use Rattle.series.specs.Row.{is_view, drops_spaces, room_for, field_at, with_field, with_view, view}

pub rows-in-one : (n : ℕ) {r r' : ℕ} → r ≡ room_for n → r' ≡ room_for n → r ≡ r'
rows-in-one n = one

pub field-of-one : (t : List ℕ) (row : ℕ) (f : Field) {r r' : ℕ} → r ≡ field_at t row f → r' ≡ field_at t row f → r ≡ r'
field-of-one t row f = one

pub set-field-one : (t : List ℕ) (row : ℕ) (f : Field) (n : ℕ) {r r' : List ℕ} → r ≡ with_field t row f n → r' ≡ with_field t row f n → r ≡ r'
set-field-one t row f n = one

pub set-view-one : (t : List ℕ) (row : ℕ) (f : Field) (start len : ℕ) {r r' : List ℕ} → r ≡ with_view t row f start len → r' ≡ with_view t row f start len → r ≡ r'
set-view-one t row f start len = one

pub view-of-one : (doc t : List ℕ) (row : ℕ) (f : Field) {r r' : List ℕ} → r ≡ view doc t row f → r' ≡ view doc t row f → r ≡ r'
view-of-one doc t row f = one

pub is-view-one : (f : Field) {r r' : Bool} → r ≡ is_view f → r' ≡ is_view f → r ≡ r'
is-view-one f = one

pub drops-spaces-one : (f : Field) {r r' : Bool} → r ≡ drops_spaces f → r' ≡ drops_spaces f → r ≡ r'
drops-spaces-one f = one
