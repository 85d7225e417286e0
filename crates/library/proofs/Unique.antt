-- The contracts of the exported functions leave one possible answer and one possible content of each lent slice. Assumes nothing.
use Prim.Native.Nat.{ℕ}
use mathlib.Core.Path.{◌≡◌}
use mathlib.Core.List.{List}
use lib.IntN.{ℤ}
use Rattle.lists.proofs.Unique.{one}
use Rattle.notes.specs.Reader.{note_in}
use Rattle.notes.specs.declared.Shape.{Shape}
use Rattle.reader.specs.Answer.{read_of}
use Rattle.reader.proofs.Unique.{read_one}
use Rattle.library.specs.Cells.{PermittedCall, PermittedNote, PermittedConversion}
use Rattle.library.specs.Version.{library_version}

pub lumintayag-version-one : {r r' : ℕ} → r ≡ library_version → r' ≡ library_version → r ≡ r'
lumintayag-version-one = one

pub lumintayag-read-v3-one : (doc : List ℕ) (ns np na : ℕ) (shape : Shape) (nb k : ℕ) {r r' : ℕ} {s s' p p' : List ℕ} {m m' : List ℤ} {n n' a a' : List ℕ}
    → PermittedCall (read_of doc ns np na shape nb) k r s p m n a → PermittedCall (read_of doc ns np na shape nb) k r' s' p' m' n' a'
    → (r ≡ r') × (s ≡ s') × (p ≡ p') × (m ≡ m') × (n ≡ n') × (a ≡ a')
lumintayag-read-v3-one doc ns np na shape nb k x y =
    let left = read_one doc ns np na shape nb x.leaves y.leaves in
    (one x.refuses y.refuses, left.1, left.2, left.3, left.4, one x.puts y.puts)

pub lumintayag-read-note-v2-one : (note : List ℕ) (k : ℕ) {r r' : ℕ} {f f' : List ℕ} → PermittedNote (note_in note) k r f → PermittedNote (note_in note) k r' f'
    → (r ≡ r') × (f ≡ f')
lumintayag-read-note-v2-one note k x y = (one x.refuses y.refuses, one x.puts y.puts)

pub lumintayag-convert-note-one : (note : List ℕ) (shape : Shape) (room k : ℕ) {r r' : ℕ} {o o' a a' : List ℕ}
    → PermittedConversion note shape room k r o a → PermittedConversion note shape room k r' o' a' → (r ≡ r') × (o ≡ o') × (a ≡ a')
lumintayag-convert-note-one note shape room k x y = (one x.refuses y.refuses, one x.leaves y.leaves, one x.puts y.puts)
