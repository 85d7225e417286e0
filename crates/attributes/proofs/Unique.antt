-- Two outcomes that a contract permits are equal.
-- Assumes nothing.
use Prim.Native.Nat.{ℕ}
use mathlib.Core.Path.{◌≡◌}
use mathlib.Core.List.{List}
use mathlib.Core.Bool.{Bool}
use Rattle.lists.proofs.Unique.{one}
use Rattle.slices.specs.Run.{run}
use Rattle.attributes.specs.Names.{name_start, name_byte, white}
use Rattle.attributes.specs.Attribute.{piece}
use Rattle.attributes.specs.Short.{v_len}
use Rattle.attributes.specs.declared.Piece.{Piece}

pub is-name-start-one : (b : ℕ) {r r' : Bool} → r ≡ name_start b → r' ≡ name_start b → r ≡ r'
is-name-start-one b = one

pub name-len-one : (s : List ℕ) {r r' : ℕ} → r ≡ run name_byte s → r' ≡ run name_byte s → r ≡ r'
name-len-one s = one

pub white-len-one : (s : List ℕ) {r r' : ℕ} → r ≡ run white s → r' ≡ run white s → r ≡ r'
white-len-one s = one

pub piece-at-one : (s : List ℕ) {r r' : Piece} → r ≡ piece s → r' ≡ piece s → r ≡ r'
piece-at-one s = one

pub v-len-one : (s : List ℕ) {r r' : ℕ} → r ≡ v_len s → r' ≡ v_len s → r ≡ r'
v-len-one s = one
