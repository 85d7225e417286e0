-- What the document reader answers, and what it leaves in the four lent buffers.
use Rattle.std.specs.Prelude.{ℕ, ◌≡◌, List, cond, ltb, ℤ, length}
use Rattle.refusals.specs.Refusals.{buffer_short}
use Rattle.lists.specs.Zeros.{zeros}
use Rattle.notes.specs.Note.{note_of, left}
use Rattle.notes.specs.declared.Note.{Note}
use Rattle.notes.specs.declared.Shape.{Shape}
use Rattle.states.specs.Moves.{begun}
use Rattle.reader.specs.Reading.{Tables, Out, blank, refused_at, read_sheet}
use Rattle.reader.specs.declared.Found.{Found}
use Rattle.reader.specs.declared.Answer.{Answer}

-- "The note is five numbers: refusal, place, kind, series, intervals.", and in the new shape the depth
unfoldable pub note_for : Found → Note
note_for f =
    record { refusal = f.refusal; place = f.place; kind = f.kind; series = f.series; intervals = f.intervals; depth = f.depth }

-- "The document reader's answer also tells N (0 on every refusal) and the note's length (0 on refusal 10)"
unfoldable pub answer_of : Found → ℕ → Answer
answer_of f note =
    record { refusal = f.refusal; place = f.place; kind = f.kind; series = f.series; intervals = f.intervals; quarters = f.quarters; note = note }

pub record Outcome : Type 0 where
  pub answer : Answer
  pub tables : Tables
  pub note : List ℕ

-- the answer to what was found, its note being written in this shape
unfoldable pub told : Shape → Found → Answer
told shape f = answer_of f (length (note_of shape (note_for f)))

-- in a buffer of nb bytes
unfoldable pub noted : Shape → ℕ → Out → Outcome
noted shape nb o =
    record {
      answer = told shape o.found;
      tables = o.tables;
      note = left (note_of shape (note_for o.found)) nb;
    }

-- "10: the note buffer has fewer than 16 bytes"; "On 10 the note buffer is all 0."
unfoldable pub unnoted : ℕ → ℕ → ℕ → ℕ → Outcome
unnoted ns np na nb = record { answer = answer_of (refused_at buffer_short 0 begun) 0; tables = blank ns np na; note = zeros nb }

-- "10 is looked at first, then 1, then the items from front to back."; "The caller picks the shape that the reader writes": a document, the lengths of the series, position
-- and amount tables, the shape, and the length of the note buffer
unfoldable pub read_of : List ℕ → ℕ → ℕ → ℕ → Shape → ℕ → Outcome
read_of doc ns np na shape nb = cond (ltb nb 16) (unnoted ns np na nb) (noted shape nb (read_sheet doc ns np na))

-- with these lists lent
abbrev pub outcome_of : List ℕ → List ℕ → List ℕ → List ℤ → Shape → List ℕ → Outcome
outcome_of doc series positions amounts shape note = read_of doc (length series) (length positions) (length amounts) shape (length note)

-- "the contract leaves one possible answer and one possible content of every lent buffer": what is answered, and left in the series, position and amount
-- tables and the note buffer, is this outcome
pub record Permitted (o : Outcome) (answer : Answer) (series positions : List ℕ) (amounts : List ℤ) (note : List ℕ) : Type 0 where
  pub answers : answer ≡ o.answer
  pub series-left : series ≡ o.tables.series
  pub positions-left : positions ≡ o.tables.positions
  pub amounts-left : amounts ≡ o.tables.amounts
  pub note-left : note ≡ o.note
