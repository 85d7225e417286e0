-- Two outcomes that a contract permits are equal.
-- Assumes nothing.
use Prim.Native.Nat.{ℕ}
use mathlib.Core.Path.{◌≡◌}
use mathlib.Core.List.{List}
use mathlib.Core.Bool.{Bool}
use Rattle.lists.proofs.Unique.{one}
use Rattle.slices.specs.Same.{same}
use Rattle.characters.specs.Says.{says}
use Rattle.characters.specs.References.{digit}
use Rattle.pictures.specs.Picture.{fits_of}
use Rattle.pictures.specs.Number.{number_at}

pub is-digit-one : (c : ℕ) {r r' : Bool} → r ≡ digit c → r' ≡ digit c → r ≡ r'
is-digit-one c = one

pub fits_one : (picture v : List ℕ) {r r' : Bool} → r ≡ fits_of picture (says v) → r' ≡ fits_of picture (says v) → r ≡ r'
fits_one picture v = one

pub is-said-one : (text v : List ℕ) {r r' : Bool} → r ≡ same text (says v) → r' ≡ same text (says v) → r ≡ r'
is-said-one text v = one

pub number-at-one : (from n : ℕ) (v : List ℕ) {r r' : ℕ} → r ≡ number_at from n (says v) → r' ≡ number_at from n (says v) → r ≡ r'
number-at-one from n v = one
