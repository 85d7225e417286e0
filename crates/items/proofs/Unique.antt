-- Two outcomes that a contract permits are equal.
-- Assumes nothing.
use Prim.Native.Nat.{ℕ}
use mathlib.Core.Path.{◌≡◌}
use mathlib.Core.List.{List}
use mathlib.Core.Bool.{Bool}
use Rattle.lists.proofs.Unique.{one}
use Rattle.slices.specs.declared.Span.{Span}
use Rattle.items.specs.Item.{item, item_end}
use Rattle.items.specs.Parts.{name_in, span_of, passed}
use Rattle.items.specs.declared.Item.{Item}

pub item-at-one : (before : ℕ) (s : List ℕ) {r r' : Item} → r ≡ item before s → r' ≡ item before s → r ≡ r'
item-at-one before s = one

pub item-len-one : (x : Item) {r r' : ℕ} → r ≡ item_end x → r' ≡ item_end x → r ≡ r'
item-len-one x = one

pub name-in-one : (x : Item) (s : List ℕ) {r r' : List ℕ} → r ≡ name_in x s → r' ≡ name_in x s → r ≡ r'
name-in-one x s = one

pub span-of-one : (x : Item) {r r' : Span} → r ≡ span_of x → r' ≡ span_of x → r ≡ r'
span-of-one x = one

pub is-passed-one : (x : Item) {r r' : Bool} → r ≡ passed x → r' ≡ passed x → r ≡ r'
is-passed-one x = one
