-- Two outcomes that a contract permits are equal: the answer, and what the lent buffer holds at exit.
-- Assumes nothing.
use Prim.Native.Nat.{ℕ}
use mathlib.Core.Path.{◌≡◌}
use mathlib.Core.List.{List}
use lib.ListN.{length}
use Rattle.std.specs.Prelude.{Option, Result}
use Rattle.lists.proofs.Unique.{one, both}
use Rattle.notes.specs.Note.{note_of, left}
use Rattle.notes.specs.Reader.{note_in}
use Rattle.notes.specs.Converter.{converted, converted_out}
use Rattle.notes.specs.declared.Note.{Note}
use Rattle.notes.specs.declared.Shape.{Shape}
use Rattle.notes.specs.declared.ConvertError.{ConvertError}

pub write-note-one : (note : List ℕ) (shape : Shape) (n : Note) {r r' : ℕ} {b b' : List ℕ}
    → (r ≡ length (note_of shape n)) × (b ≡ left (note_of shape n) (length note))
    → (r' ≡ length (note_of shape n)) × (b' ≡ left (note_of shape n) (length note)) → (r ≡ r') × (b ≡ b')
write-note-one note shape n = both

pub read-note-one : (s : List ℕ) {r r' : Option Note} → r ≡ note_in s → r' ≡ note_in s → r ≡ r'
read-note-one s = one

pub convert-note-one : (s : List ℕ) (shape : Shape) (out : List ℕ) {r r' : Result ℕ ConvertError} {b b' : List ℕ}
    → (r ≡ converted s shape (length out)) × (b ≡ converted_out s shape (length out))
    → (r' ≡ converted s shape (length out)) × (b' ≡ converted_out s shape (length out)) → (r ≡ r') × (b ≡ b')
convert-note-one s shape out = both
