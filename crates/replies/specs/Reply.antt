-- What the program prints.
use Rattle.std.specs.Prelude.{ℕ, min, ◌≡◌, List, [], ◌∷◌, ◌++◌, cond, ltb, length, take}
use Rattle.std.proofs.lemmas.List.Edits.{sets}
use Rattle.io.specs.Counts.{IsPrefixLen}
use Rattle.slices.specs.Text.{text}
use Rattle.lines.specs.Text.{hex_text}
use Rattle.series.specs.Row.{cells_of}
use Rattle.notes.specs.declared.Shape.TheVariants.{Old}
use Rattle.reader.specs.Answer.{Outcome, read_of}

-- a text, and "one newline"
unfoldable pub line_for : List ℕ → List ℕ
line_for s = s ++ (10 ∷ [])

-- "the zeros past it aren't part of the note"
unfoldable pub note_written : Outcome → List ℕ
note_written o = take o.answer.note o.note

-- "A program reads standard input, at most 65,536 bytes, and prints the note as two-digit upper-case hex, single spaces, one newline; for longer input
-- it prints `too long` and one newline. It lends 64 series and 2,048 intervals." It writes the old shape
unfoldable pub reply_to : List ℕ → List ℕ
reply_to input = cond (ltb 65536 (length input)) (line_for (text "too long")) (line_for (hex_text (note_written (read_of input (cells_of 64) 2048 2048 Old 16))))

-- what `put_reply` answers and leaves of a buffer that held out: the reply at its start, as much as it has room for, and how many characters that is
pub record PermittedReply (reply out : List ℕ) (count : ℕ) (left : List ℕ) : Type 0 where
  pub counted : count ≡ min (length reply) (length out)
  pub text : left ≡ sets out 0 reply
  pub room : IsPrefixLen count left
