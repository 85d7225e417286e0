-- "Two documents of equal length that differ only in digits of readable Qty values get the same answer, place, counts and note, and the same cells but
-- for the amounts of accepted intervals whose own digits differ."
use Rattle.std.specs.Prelude.{ℕ, ◌<◌, ◌≡◌, List, ◌⊎◌, ℤ, pos, length, get_or}
use Rattle.tags.specs.Known.{absent}
use Rattle.slices.specs.declared.Span.{Span}
use Rattle.notes.specs.declared.Shape.{Shape}
use Rattle.reader.specs.Rows.{quoted}
use Rattle.reader.specs.Answer.{read_of}
use Rattle.blindness.specs.Sources.{amount_at, sources_of}

-- into tables of ns, np and na cells and a note buffer of nb bytes, with the same shape picked for both documents
module _ (ns np na : ℕ) (shape : Shape) (nb : ℕ) where
  abbrev pub amount_cell : List ℕ → ℕ → ℤ
  amount_cell doc k = get_or (read_of doc ns np na shape nb).tables.amounts k (pos 0)

  -- where the amount in cell k comes from; `absent` where from no value
  abbrev pub source : List ℕ → ℕ → Span
  source doc k = get_or (sources_of doc ns np na shape nb) k absent

  -- "the amounts of accepted intervals whose own digits differ": interval k has its amount from Qty values that stand at one place in x and in y and have
  -- different bytes
  pub record OwnDigitsDiffer (x y : List ℕ) (k : ℕ) : Type 0 where
    pub accepted : ((read_of x ns np na shape nb).answer.refusal ≡ 0) × ((read_of y ns np na shape nb).answer.refusal ≡ 0)
    pub interval : k < (read_of x ns np na shape nb).answer.intervals
    pub own : source x k ≡ source y k
    pub says : (amount_cell x k ≡ amount_at x (source x k)) × (amount_cell y k ≡ amount_at y (source y k))
    pub differ : quoted (source x k) x ≡ quoted (source y k) y → ⊥

  pub record SameButAmounts (x y : List ℕ) : Type 0 where
    -- refusal, place, kind, counts, N, and the note's length
    pub answer : (read_of x ns np na shape nb).answer ≡ (read_of y ns np na shape nb).answer
    pub note : (read_of x ns np na shape nb).note ≡ (read_of y ns np na shape nb).note
    pub series : (read_of x ns np na shape nb).tables.series ≡ (read_of y ns np na shape nb).tables.series
    pub positions : (read_of x ns np na shape nb).tables.positions ≡ (read_of y ns np na shape nb).tables.positions
    pub long : length (read_of x ns np na shape nb).tables.amounts ≡ length (read_of y ns np na shape nb).tables.amounts
    pub amounts : (k : ℕ) → (amount_cell x k ≡ amount_cell y k) ⊎ OwnDigitsDiffer x y k
