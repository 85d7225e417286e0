-- What the writer answers and leaves in the output: "The writer refuses exactly when no document .. would be accepted with the given content, or the fixed
-- layout is longer than the lent output or 1,048,576 bytes; output is then all 0. Refusals: 12 content .., then 13 length."
use Rattle.std.specs.Prelude.{ℕ, ◌-◌, min, List, ◌++◌, cond, leb, length}
use Rattle.lists.specs.Zeros.{zeros}
use Rattle.refusals.specs.Refusals.{no_refusal, content_unfit, no_room_to_write}
use Rattle.drafts.specs.Draft.{Draft, draft_document}
use Rattle.drafts.specs.Fit.{draft_fits}

-- "longer than .. 1,048,576 bytes"
abbrev pub longest : ℕ
longest = 1048576

-- how many bytes of an output a document may take
unfoldable pub room_in : ℕ → ℕ
room_in n = min n longest

-- the refusal, the length of the document, and the output
pub record Written : Type 0 where
  pub refusal : ℕ
  pub len : ℕ
  pub output : List ℕ

-- "output is then all 0"
unfoldable pub refused_by : ℕ → ℕ → Written
refused_by number n = record { refusal = number; len = 0; output = zeros n }

-- "bytes past the document are 0"
unfoldable pub laid_in : List ℕ → ℕ → Written
laid_in doc n = record { refusal = no_refusal; len = length doc; output = doc ++ zeros (n - length doc) }

unfoldable pub fit_written : List ℕ → ℕ → Written
fit_written doc n = cond (leb (length doc) (room_in n)) (laid_in doc n) (refused_by no_room_to_write n)

-- into an output of n bytes
unfoldable pub written_of : Draft → ℕ → Written
written_of d n = cond (draft_fits d) (fit_written (draft_document d) n) (refused_by content_unfit n)
