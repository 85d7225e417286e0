-- Which Qty value says the amount in a cell of the amount table. "Intervals take one position and one amount at the same index. .. Rows come in document
-- order.", and each Interval has one Qty: so row k has its amount from Qty number k of the document, both counted from 0.
use Rattle.std.specs.Prelude.{ℕ, ◌+◌, List, [], ◌∷◌, cond, ℤ, eqb, Result, Ok, Err}
use Rattle.items.specs.Parts.{span_of}
use Rattle.characters.specs.Says.{says}
use Rattle.slices.specs.declared.Span.{Span}
use Rattle.trims.specs.Trim.{dropped}
use Rattle.numbers.specs.Amount.{amount_of}
use Rattle.prolog.specs.Prolog.{begin}
use Rattle.notes.specs.declared.Shape.{Shape}
use Rattle.reader.specs.Items.{Placed, items_from}
use Rattle.reader.specs.Rows.{quoted, thousandths_of}
use Rattle.reader.specs.Answer.{read_of}
use Rattle.blindness.specs.Readable.{named_qty}

-- the value of `v` in an item, as a part of the document
unfoldable pub value_at : Placed → Span
value_at x = record { start = x.at + (span_of x.item).start; len = (span_of x.item).len }

-- those of the tags named Qty, in document order
unfoldable pub qty_values : List Placed → List Span
qty_values [] = []
qty_values (x ∷ xs) = let rest = qty_values xs in cond (named_qty x.item x.rest) (value_at x ∷ rest) rest

unfoldable pub qty_values_after : List ℕ → Result ℕ ℕ → List Span
qty_values_after doc (Ok n) = qty_values (items_from doc n)
qty_values_after doc (Err p) = []

-- the sources of the amounts of a document that is accepted; on every refusal there are none
unfoldable pub sources_of : List ℕ → ℕ → ℕ → ℕ → Shape → ℕ → List Span
sources_of doc ns np na shape nb = cond (eqb (read_of doc ns np na shape nb).answer.refusal 0) (qty_values_after doc (begin doc)) []

-- the amount that the value at a source says; where there is none, 0
unfoldable pub amount_at : List ℕ → Span → ℤ
amount_at doc v = thousandths_of (amount_of (dropped (says (quoted v doc))))
