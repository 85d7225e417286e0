-- What the converter answers and leaves. What it does to a note, there and back, is in proofs/Promises.antt.
use Rattle.std.specs.Prelude.{ℕ, List, [], cond, ltb, length, Option, Some, None, Result, Ok, Err}
use Rattle.refusals.specs.Refusals.{no_refusal, buffer_short, not_one_note}
use Rattle.lists.specs.Zeros.{zeros}
use Rattle.notes.specs.Note.{note_of, left}
use Rattle.notes.specs.Reader.{note_in}
use Rattle.notes.specs.declared.Shape.{Shape}
use Rattle.notes.specs.declared.Note.{Note}
use Rattle.notes.specs.declared.ConvertError.{ConvertError}
use Rattle.notes.specs.declared.ConvertError.TheVariants.{OutShort, NeitherShape}

-- "Old notes are turned into new ones with depth 0, new into old by leaving it out.": the note in this shape; no bytes for what is no note
abbrev pub bytes_for : Shape → Option Note → List ℕ
bytes_for shape (Some n) = note_of shape n
bytes_for shape None = []

unfoldable pub in_shape : Shape → List ℕ → List ℕ
in_shape shape s = bytes_for shape (note_in s)

abbrev pub turned_into : Shape → Option Note → Result ℕ ConvertError
turned_into shape (Some n) = Ok (length (note_of shape n))
turned_into shape None = Err NeitherShape

-- "converting into fewer than 24 bytes is 10, then 11 for bytes that are neither"; the output has so many bytes
unfoldable pub converted : List ℕ → Shape → ℕ → Result ℕ ConvertError
converted s shape room = cond (ltb room 24) (Err OutShort) (turned_into shape (note_in s))

-- "output is then all 0", and so are the bytes past the note
unfoldable pub converted_out : List ℕ → Shape → ℕ → List ℕ
converted_out s shape room = cond (ltb room 24) (zeros room) (left (in_shape shape s) room)

-- The paper's number and values for each answer of the converter: the refusal, and the note's length, 0 on a refusal
abbrev pub convert_refusal : Result ℕ ConvertError → ℕ
convert_refusal (Ok k) = no_refusal
convert_refusal (Err OutShort) = buffer_short
convert_refusal (Err NeitherShape) = not_one_note

abbrev pub convert_length : Result ℕ ConvertError → ℕ
convert_length (Ok k) = k
convert_length (Err OutShort) = 0
convert_length (Err NeitherShape) = 0
