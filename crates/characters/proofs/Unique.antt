-- Two outcomes that a contract permits are equal.
-- Assumes nothing.
use Prim.Native.Nat.{ℕ}
use mathlib.Core.Path.{◌≡◌}
use mathlib.Core.List.{List}
use mathlib.Core.Bool.{Bool}
use lib.ListN.{length}
use Rattle.std.specs.Prelude.{Option}
use Rattle.lists.proofs.Unique.{one}
use Rattle.slices.specs.Same.{same}
use Rattle.characters.specs.Utf8.{char_at}
use Rattle.characters.specs.References.{reference_at}
use Rattle.characters.specs.Says.{all_chars, own_end, ends_otherwise, said_at, says}

pub char-at-one : (s : List ℕ) {r r' : Option (ℕ × ℕ)} → r ≡ char_at s → r' ≡ char_at s → r ≡ r'
char-at-one s = one

pub reference-at-one : (s : List ℕ) {r r' : Option (ℕ × ℕ)} → r ≡ reference_at s → r' ≡ reference_at s → r ≡ r'
reference-at-one s = one

pub all-chars-one : (s : List ℕ) {r r' : Bool} → r ≡ all_chars s → r' ≡ all_chars s → r ≡ r'
all-chars-one s = one

pub said-at-one : (v : List ℕ) {r r' : Option (ℕ × ℕ)} → r ≡ said_at v → r' ≡ said_at v → r ≡ r'
said-at-one v = one

pub count-chars-one : (v : List ℕ) {r r' : ℕ} → r ≡ length (says v) → r' ≡ length (says v) → r ≡ r'
count-chars-one v = one

pub own-end-one : (v : List ℕ) {r r' : ℕ} → r ≡ own_end v → r' ≡ own_end v → r ≡ r'
own-end-one v = one

pub ends-otherwise-one : (v : List ℕ) (y : ℕ) {r r' : Bool} → r ≡ ends_otherwise v y → r' ≡ ends_otherwise v y → r ≡ r'
ends-otherwise-one v y = one

pub says-same-one : (a b : List ℕ) {r r' : Bool} → r ≡ same (says a) (says b) → r' ≡ same (says a) (says b) → r ≡ r'
says-same-one a b = one
