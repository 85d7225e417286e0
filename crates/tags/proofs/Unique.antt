-- Two outcomes that a contract permits are equal.
-- Assumes nothing.
use Prim.Native.Nat.{ℕ}
use mathlib.Core.Path.{◌≡◌}
use mathlib.Core.List.{List}
use Rattle.std.specs.Prelude.{Option}
use Rattle.lists.proofs.Unique.{one}
use Rattle.tags.specs.Known.{with_attribute, none_known}
use Rattle.tags.specs.Tail.{ends, tail}
use Rattle.slices.specs.declared.Span.{Span}
use Rattle.tags.specs.declared.Known.{Known}
use Rattle.tags.specs.declared.Tail.{Tail}

pub none-one : {r r' : Known} → r ≡ none_known → r' ≡ none_known → r ≡ r'
none-one = one

pub noted_one : (k : Known) (name : List ℕ) (value : Span) {r r' : Known} → r ≡ with_attribute k name value → r' ≡ with_attribute k name value → r ≡ r'
noted_one k name value = one

pub tail-at-one : (s : List ℕ) (from : ℕ) {r r' : Option Tail} → r ≡ tail none_known (ends s from) → r' ≡ tail none_known (ends s from) → r ≡ r'
tail-at-one s from = one
