-- Answers of the document reader.
use Rattle.std.specs.Prelude.{ℕ}
use Rattle.notes.specs.declared.Note.{Note}
use Rattle.notes.specs.declared.Shape.{Shape}
use Rattle.notes.specs.declared.Shape.TheVariants.{Old, New}
use Rattle.reader.specs.declared.Answer.{Answer}

-- "The note is five numbers: refusal, place, kind, series, intervals.", and in the new shape the depth
abbrev pub note_told : Answer → ℕ → Note
note_told a depth = record { refusal = a.refusal; place = a.place; kind = a.kind; series = a.series; intervals = a.intervals; depth = depth }

-- how many numbers a note of this shape has: as many bytes, where each has one
abbrev pub count_in : Shape → ℕ
count_in Old = 5
count_in New = 7

-- how many bytes a note of this shape has at most, as the document reader writes it
abbrev pub longest : Shape → ℕ
longest Old = 11
longest New = 13

-- a refusal at 0 with nothing counted, and the note's length
abbrev pub at_once : ℕ → ℕ → Answer
at_once refusal note = record { refusal = refusal; place = 0; kind = 0; series = 0; intervals = 0; quarters = 0; note = note }
