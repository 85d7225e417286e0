-- What `lumintayag_write` and `lumintayag_unescape` answer and leave in the lent slices.
use Rattle.std.specs.Prelude.{ℕ, ◌≡◌, List, ℤ, length, set}
use Rattle.std.proofs.lemmas.List.Edits.{sets}
use Rattle.lists.specs.Zeros.{zeros}
use Rattle.guideline.specs.Rows.{rows_of}
use Rattle.escapes.specs.Spelled.{unescaped}
use Rattle.drafts.specs.Written.{Written, fit_written}
use Rattle.putting.specs.Sheet.{sheet_text}

-- for a private contract: the text that the code puts, which for the two kinds is the draft's document
unfoldable pub written : ℕ → List ℕ → List ℕ → ℕ → List ℕ → List ℕ → List ℤ → ℕ → Written
written kind text pairs count series positions amounts n = fit_written (sheet_text (rows_of kind) text pairs count series positions amounts) n

-- refusal and length in the first cells of k, as far as there are cells, and 0 in those after them
unfoldable pub two_in : ℕ → ℕ → ℕ → List ℕ
two_in k refusal len = set (set (zeros k) 0 refusal) 1 len

-- what is answered, and left in the output and in the k cells of the answer
pub record PermittedWrite (o : Written) (k refusal : ℕ) (out answer : List ℕ) : Type 0 where
  pub refuses : refusal ≡ o.refusal
  pub writes : out ≡ o.output
  pub puts : answer ≡ two_in k o.refusal o.len

-- of `lumintayag_unescape`, with `before` lent
pub record PermittedText (value before : List ℕ) (len : ℕ) (out : List ℕ) : Type 0 where
  pub answers : len ≡ length (unescaped value)
  pub writes : out ≡ sets before 0 (unescaped value)
