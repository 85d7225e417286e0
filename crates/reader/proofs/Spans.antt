-- How long a value is, and where it ends in its item. Assumes nothing.
use Prim.Native.Nat.{ℕ, ◌+◌, ◌≤◌}
use mathlib.Core.List.{List}
use native.Mathlib.Omega.{arith}
use native.Mathlib.Nat.{le_refl}
use lib.ListN.{length, length-take}
use Rattle.slices.specs.declared.Span.{Span}
use Rattle.slices.specs.Part.{part_of}
use Rattle.items.specs.Parts.{span_of}
use Rattle.items.specs.Item.{item_value}
use Rattle.items.specs.declared.Item.{Item}
use Rattle.items.specs.declared.Item.TheVariants.{Start, Empty, End, Text, Comment, Unreadable}
use Rattle.reader.specs.Rows.{quoted}

pub quoted-le : (v : Span) (s : List ℕ) → length (quoted v s) ≤ v.len
unfolding quoted part_of
quoted-le v s = simp length-take (omega arith)

pub span-in : (x : Item) → (span_of x).start + (span_of x).len ≤ item_value x
unfolding span_of
span-in (Start t) = le_refl _
span-in (Empty t) = le_refl _
span-in (End n e) = omega arith
span-in (Text w e) = omega arith
span-in (Comment e) = omega arith
span-in (Unreadable p) = omega arith
