-- The contracts of this crate leave one possible content of the lent table. Assumes nothing.
use Prim.Native.Nat.{ℕ}
use mathlib.Core.Path.{◌≡◌}
use mathlib.Core.List.{List}
use lib.IntN.{ℤ}
use lib.ListN.{length, set}
use Rattle.lists.specs.Zeros.{zeros}
use Rattle.lists.proofs.Unique.{one}
use Rattle.tables.specs.Cells.{no_amounts}

pub clear-numbers-one : (t : List ℕ) {r r' : List ℕ} → r ≡ zeros (length t) → r' ≡ zeros (length t) → r ≡ r'
clear-numbers-one t = one

pub clear-amounts-one : (t : List ℤ) {r r' : List ℤ} → r ≡ no_amounts (length t) → r' ≡ no_amounts (length t) → r ≡ r'
clear-amounts-one t = one

pub set-number-one : (t : List ℕ) (i n : ℕ) {r r' : List ℕ} → r ≡ set t i n → r' ≡ set t i n → r ≡ r'
set-number-one t i n = one

pub set-amount-one : (t : List ℤ) (i : ℕ) (a : ℤ) {r r' : List ℤ} → r ≡ set t i a → r' ≡ set t i a → r ≡ r'
set-amount-one t i a = one
