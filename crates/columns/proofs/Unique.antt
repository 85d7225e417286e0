-- Two outcomes that a contract permits are equal.
-- Assumes nothing.
use Prim.Native.Nat.{ℕ}
use mathlib.Core.Path.{◌≡◌}
use mathlib.Core.Bool.{Bool}
use Rattle.lists.proofs.Unique.{one}
use Rattle.columns.specs.Columns.{form_of, collapsed, scheme_of, role_of}

pub form-of-one : (w : ℕ) {r r' : ℕ} → r ≡ form_of w → r' ≡ form_of w → r ≡ r'
form-of-one w = one

pub is-collapsed-one : (w : ℕ) {r r' : Bool} → r ≡ collapsed w → r' ≡ collapsed w → r ≡ r'
is-collapsed-one w = one

pub scheme-of-one : (w : ℕ) {r r' : ℕ} → r ≡ scheme_of w → r' ≡ scheme_of w → r ≡ r'
scheme-of-one w = one

pub role-of-one : (w : ℕ) {r r' : ℕ} → r ≡ role_of w → r' ≡ role_of w → r ≡ r'
role-of-one w = one
