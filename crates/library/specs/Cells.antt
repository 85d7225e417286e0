-- The numbers of an answer, in the cells of a lent slice.
use Rattle.std.specs.Prelude.{ℕ, ◌≡◌, List, [], ◌∷◌, ◌++◌, cond, eqb, ℤ, take, Option, Result}
use Rattle.lists.specs.Zeros.{zeros}
use Rattle.notes.specs.Reader.{read_refusal, six_of}
use Rattle.notes.specs.Converter.{converted, converted_out, convert_refusal, convert_length}
use Rattle.notes.specs.declared.Shape.{Shape}
use Rattle.notes.specs.declared.Shape.TheVariants.{Old, New}
use Rattle.reader.specs.Answer.{Outcome, Permitted}
use Rattle.reader.specs.declared.Answer.{Answer}
use Rattle.notes.specs.declared.Note.{Note}
use Rattle.notes.specs.declared.ConvertError.{ConvertError}

-- n cells: the numbers from the first cell on, as far as there are cells, and 0 in those after them
unfoldable pub cells : ℕ → List ℕ → List ℕ
cells n ns = take n (ns ++ zeros n)

-- "The note is five numbers: refusal, place, kind, series, intervals."; "The document reader's answer also tells N (0 on every refusal) and
-- the note's length (0 on refusal 10)"
unfoldable pub seven_of : Answer → List ℕ
seven_of a = a.refusal ∷ a.place ∷ a.kind ∷ a.series ∷ a.intervals ∷ a.quarters ∷ a.note ∷ []

-- "The caller picks the shape that the reader writes": 0 is the old one, and any other number the new one
unfoldable pub shape_of : ℕ → Shape
shape_of n = cond (eqb n 0) Old New

-- what `lumintayag_read_v3` answers and leaves: the refusal, the tables and the note of this outcome, and its seven numbers in k cells
pub record PermittedCall (o : Outcome) (k refusal : ℕ) (series positions : List ℕ) (amounts : List ℤ) (note answer : List ℕ) : Type 0 where
  pub refuses : refusal ≡ o.answer.refusal
  pub leaves : Permitted o o.answer series positions amounts note
  pub puts : answer ≡ cells k (seven_of o.answer)

-- what `lumintayag_read_note_v2` answers and leaves: 0 and the six numbers, the depth last, or 11 and zeros, in k cells
pub record PermittedNote (n : Option Note) (k refusal : ℕ) (six : List ℕ) : Type 0 where
  pub refuses : refusal ≡ read_refusal n
  pub puts : six ≡ cells k (six_of n)

-- the refusal of a conversion, and the length of the note that was written
unfoldable pub two_of : Result ℕ ConvertError → List ℕ
two_of c = convert_refusal c ∷ convert_length c ∷ []

-- what `lumintayag_convert_note` answers and leaves of an output of `room` bytes: the refusal, the note, and refusal and length in k cells
pub record PermittedConversion (note : List ℕ) (shape : Shape) (room k refusal : ℕ) (out answer : List ℕ) : Type 0 where
  pub refuses : refusal ≡ convert_refusal (converted note shape room)
  pub leaves : out ≡ converted_out note shape room
  pub puts : answer ≡ cells k (two_of (converted note shape room))
