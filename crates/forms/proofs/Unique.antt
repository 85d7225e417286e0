-- Two outcomes that a contract permits are equal. Assumes nothing.
use Prim.Native.Nat.{ℕ}
use mathlib.Core.Path.{◌≡◌}
use mathlib.Core.List.{List}
use mathlib.Core.Bool.{Bool}
use Rattle.characters.specs.Says.{says}
use Rattle.forms.specs.Forms.{identification, grid_element, market_partner, resource_object, party, quarter_hour}
use Rattle.lists.proofs.Unique.{one}

pub is-identification-one : (v : List ℕ) {r r' : Bool} → r ≡ identification (says v) → r' ≡ identification (says v) → r ≡ r'
is-identification-one v = one

pub is-grid-element-one : (v : List ℕ) {r r' : Bool} → r ≡ grid_element (says v) → r' ≡ grid_element (says v) → r ≡ r'
is-grid-element-one v = one

pub is-market-partner-one : (v : List ℕ) {r r' : Bool} → r ≡ market_partner (says v) → r' ≡ market_partner (says v) → r ≡ r'
is-market-partner-one v = one

pub is-resource-object-one : (v : List ℕ) {r r' : Bool} → r ≡ resource_object (says v) → r' ≡ resource_object (says v) → r ≡ r'
is-resource-object-one v = one

pub is-party-one : (v : List ℕ) {r r' : Bool} → r ≡ party (says v) → r' ≡ party (says v) → r ≡ r'
is-party-one v = one

pub is-quarter-hour-one : (v : List ℕ) {r r' : Bool} → r ≡ quarter_hour (says v) → r' ≡ quarter_hour (says v) → r ≡ r'
is-quarter-hour-one v = one
