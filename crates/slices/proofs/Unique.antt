-- Two outcomes that a contract permits are equal.
-- Assumes nothing.
use Prim.Native.Nat.{ℕ}
use mathlib.Core.Path.{◌≡◌}
use mathlib.Core.List.{List}
use mathlib.Core.Bool.{Bool}
use lib.ListN.{take, drop}
use Rattle.lists.proofs.Unique.{one}
use Rattle.slices.specs.Bytes.{byte}
use Rattle.slices.specs.Part.{part_of}
use Rattle.slices.specs.Run.{run}
use Rattle.slices.specs.Same.{same, begins, first_at}

pub byte-at-one : (s : List ℕ) (i : ℕ) {r r' : ℕ} → r ≡ byte s i → r' ≡ byte s i → r ≡ r'
byte-at-one s i = one

pub rest-one : (s : List ℕ) (n : ℕ) {r r' : List ℕ} → r ≡ drop n s → r' ≡ drop n s → r ≡ r'
rest-one s n = one

pub front-one : (s : List ℕ) (n : ℕ) {r r' : List ℕ} → r ≡ take n s → r' ≡ take n s → r ≡ r'
front-one s n = one

pub part-one : (s : List ℕ) (at n : ℕ) {r r' : List ℕ} → r ≡ part_of s at n → r' ≡ part_of s at n → r ≡ r'
part-one s at n = one

pub is-same-one : (a b : List ℕ) {r r' : Bool} → r ≡ same a b → r' ≡ same a b → r ≡ r'
is-same-one a b = one

pub begins-with-one : (t s : List ℕ) {r r' : Bool} → r ≡ begins t s → r' ≡ begins t s → r ≡ r'
begins-with-one t s = one

pub first-at-one : (t s : List ℕ) {r r' : ℕ} → r ≡ first_at t s → r' ≡ first_at t s → r ≡ r'
first-at-one t s = one

-- for the test p of its type
pub run-len-one : (p : ℕ → Bool) (s : List ℕ) {r r' : ℕ} → r ≡ run p s → r' ≡ run p s → r ≡ r'
run-len-one p s = one
