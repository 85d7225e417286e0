-- The three answers of the converter.
-- Assumes nothing.
use mathlib.Core.Path.{◌≡◌, refl}
use mathlib.Core.List.{List}
use Prim.Native.Nat.{ℕ, ◌≤◌, ◌<◌}
use lib.ListN.{length}
use borrow.Author.Tests.{lt-ltb, le-ltb}
use Rattle.std.specs.Prelude.{Some, None, Ok, Err}
use Rattle.lists.specs.Zeros.{zeros}
use Rattle.notes.specs.Note.{note_of, left}
use Rattle.notes.specs.Reader.{note_in}
use Rattle.notes.specs.Converter.{in_shape, converted, converted_out}
use Rattle.notes.specs.declared.Note.{Note}
use Rattle.notes.specs.declared.Shape.{Shape}
use Rattle.notes.specs.declared.ConvertError.TheVariants.{OutShort, NeitherShape}

module _ (s : List ℕ) (shape : Shape) (room : ℕ) where
  pub conv-short : room < 24 → (Err OutShort ≡ converted s shape room) × (zeros room ≡ converted_out s shape room)
  unfolding converted converted_out
  conv-short h = rw (lt-ltb _ _ h) (refl, refl)

  pub conv-neither : 24 ≤ room → note_in s ≡ None → (Err NeitherShape ≡ converted s shape room) × (zeros room ≡ converted_out s shape room)
  unfolding converted converted_out in_shape left
  conv-neither h e = rw (le-ltb _ _ h, e) (refl, refl)

  pub conv-turned : (n : Note) → 24 ≤ room → note_in s ≡ Some n
      → (Ok (length (note_of shape n)) ≡ converted s shape room) × (left (note_of shape n) room ≡ converted_out s shape room)
  unfolding converted converted_out in_shape
  conv-turned n h e = rw (le-ltb _ _ h, e) (refl, refl)
