-- The note's length is small, whatever was read or converted: seven numbers of at most five groups.
-- Assumes nothing.
use mathlib.Core.List.{List, [], ◌∷◌}
use Prim.Native.Nat.{ℕ, ◌*◌, ◌≤◌}
use native.Mathlib.Omega.{arith}
use lib.Dec.{ltb}
use lib.ListN.{length, length-append}
use Rattle.std.specs.Prelude.{Option, Some, None, Result}
use Rattle.lists.proofs.Cases.{by_cond}
use Rattle.notes.specs.Note.{groups, flat, numbers_for, note_of}
use Rattle.notes.specs.Reader.{note_in}
use Rattle.notes.specs.Converter.{turned_into, converted, convert_length}
use Rattle.notes.specs.declared.Note.{Note}
use Rattle.notes.specs.declared.Shape.{Shape}
use Rattle.notes.specs.declared.Shape.TheVariants.{Old, New}
use Rattle.notes.proofs.Groups.{groups-le}
use Rattle.reader.specs.Answer.{Outcome, answer_of, note_for, told, noted, unnoted, read_of}
use Rattle.reader.specs.Reading.{read_sheet}
use Rattle.notes.specs.declared.ConvertError.{ConvertError}

flat-le : (ns : List ℕ) → length (flat ns) ≤ 5 * length ns
unfolding flat
flat-le [] = omega arith
flat-le (n ∷ ns) = omega (arith, length-append (groups n) (flat ns), groups-le 4 n, flat-le ns)

note-le : (shape : Shape) (n : Note) → length (note_of shape n) ≤ 35
note-le Old n = let h = flat-le (numbers_for Old n) in omega arith
note-le New n = flat-le (numbers_for New n)

none-le : 0 ≤ 35
none-le = omega arith

pub note-short : (doc : List ℕ) (ns np na : ℕ) (shape : Shape) (nb : ℕ) → (read_of doc ns np na shape nb).answer.note ≤ 35
unfolding read_of noted unnoted told answer_of
note-short doc ns np na shape nb =
    by_cond (λ (o : Outcome). o.answer.note ≤ 35) (ltb nb 16) none-le (note-le shape (note_for (read_sheet doc ns np na).found))

turned_le : (shape : Shape) (r : Option Note) → convert_length (turned_into shape r) ≤ 35
turned_le shape (Some n) = note-le shape n
turned_le shape None = none-le

pub converted-short : (s : List ℕ) (shape : Shape) (room : ℕ) → convert_length (converted s shape room) ≤ 35
unfolding converted
converted-short s shape room = by_cond (λ (c : Result ℕ ConvertError). convert_length c ≤ 35) (ltb room 24) none-le (turned_le shape (note_in s))
