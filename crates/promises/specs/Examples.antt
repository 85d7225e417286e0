-- "P1 to P12 form a single table with a single proved statement": the table, with the cases that K1 and K9 of the requests tell. `examples-pass` of proofs/Examples.antt is the statement.
use Rattle.std.specs.Prelude.{ℕ, List, [], ◌∷◌, Bool, true, false, cond, ◌&&◌, ℤ, pos, negsuc, length, eqb, Option, Some, None, is_none}
use Rattle.lists.specs.Zeros.{padded}
use Rattle.slices.specs.Same.{same}
use Rattle.slices.specs.Text.{text}
use Rattle.numbers.specs.Amount.{amount_of}
use Rattle.times.specs.Periods.{quarter_hours}
use Rattle.columns.specs.Columns.{date_time_form}
use Rattle.rules.specs.Rules.{form_refusal, judge_period}
use Rattle.rules.specs.Judged.{Judged}
use Rattle.states.specs.Moves.{count_refusal}
use Rattle.series.specs.Row.{cells_of}
use Rattle.notes.specs.declared.Shape.TheVariants.{Old, New}
use Rattle.reader.specs.Answer.{Outcome, read_of}

pub data Example : Type 0 where
  -- a document: the refusal, its place, and the note
  document : List ℕ → ℕ → ℕ → List ℕ → Example
  -- a document, and the note of it in the new shape
  new_note_of : List ℕ → List ℕ → Example
  -- an amount in thousandths; a text that is none
  amount : List ℕ → ℤ → Example
  no_amount : List ℕ → Example
  -- a date-time: its refusal, 0 for none
  moment : List ℕ → ℕ → Example
  -- TimePeriodCovered of kind 1: its refusal, and N
  period : List ℕ → ℕ → ℕ → Example
  -- the end tag of Period in kind 1: N, how many intervals there are, and the refusal
  period_end : ℕ → ℕ → ℕ → Example

abbrev pub examples : List Example
examples =
    -- P1 to P5
    document [] 3 0 (0x03 ∷ 0x00 ∷ 0x00 ∷ 0x00 ∷ 0x00 ∷ []) ∷
    document (text "<Kostenblatt>") 5 0 (0x05 ∷ 0x00 ∷ 0x00 ∷ 0x00 ∷ 0x00 ∷ []) ∷
    document (text "<Kostenblatt/>") 3 0 (0x03 ∷ 0x00 ∷ 0x00 ∷ 0x00 ∷ 0x00 ∷ []) ∷
    document (text "<Kostenblatt DtdBDEWNachrichtenVersion=\"1.0\">") 3 45 (0x03 ∷ 0x2D ∷ 0x02 ∷ 0x00 ∷ 0x00 ∷ []) ∷
    document (text "<Kostenblatt DtdBDEWNachrichtenVersion=\"1.1\">") 6 0 (0x06 ∷ 0x00 ∷ 0x00 ∷ 0x00 ∷ 0x00 ∷ []) ∷
    -- P1 and P4 in the new shape of K9: nothing is open in the one, the root in the other
    new_note_of [] (0x64 ∷ 0x03 ∷ 0x00 ∷ 0x00 ∷ 0x00 ∷ 0x00 ∷ 0x00 ∷ []) ∷
    new_note_of (text "<Kostenblatt DtdBDEWNachrichtenVersion=\"1.0\">") (0x64 ∷ 0x03 ∷ 0x2D ∷ 0x02 ∷ 0x00 ∷ 0x00 ∷ 0x01 ∷ []) ∷
    -- K2: the start of a NetworkConstraintDocument; without DtdRelease, and with another DtdBDEWNachrichtenVersion
    document (text "<NetworkConstraintDocument DtdVersion=\"4\" DtdRelease=\"1\">") 3 57 (0x03 ∷ 0x39 ∷ 0x03 ∷ 0x00 ∷ 0x00 ∷ []) ∷
    document (text "<NetworkConstraintDocument DtdVersion=\"4\">") 5 0 (0x05 ∷ 0x00 ∷ 0x00 ∷ 0x00 ∷ 0x00 ∷ []) ∷
    document (text "<NetworkConstraintDocument DtdVersion=\"4\" DtdRelease=\"1\" DtdBDEWNachrichtenVersion=\"1.0\">") 6 0
    (0x06 ∷ 0x00 ∷ 0x00 ∷ 0x00 ∷ 0x00 ∷ []) ∷
    -- P6, P7, P8
    amount (text "-0") (pos 0) ∷
    amount (text "-0.001") (negsuc 0) ∷
    amount (text "999999999999.999") (pos 999999999999999) ∷
    -- P9
    no_amount (text "5.") ∷
    no_amount (text ".5") ∷
    no_amount (text "+5") ∷
    no_amount (text "1.0000") ∷
    no_amount (text "1234567890123") ∷
    -- P10, in both forms
    moment (text "2024-02-29T00:00:00Z") 0 ∷
    moment (text "2023-02-29T00:00:00Z") 6 ∷
    period (text "2024-02-29T23:00Z/2024-03-01T23:00Z") 0 96 ∷
    period (text "2023-02-29T23:00Z/2023-03-01T23:00Z") 6 0 ∷
    -- P11, P12
    period (text "2024-03-30T23:00Z/2024-03-31T22:00Z") 0 92 ∷
    period (text "2024-10-26T22:00Z/2024-10-27T23:00Z") 0 100 ∷
    -- K1: "A request for 11 May with 92 quarter hours went through"; the first and the last day
    period (text "2024-05-10T23:00Z/2024-05-11T22:00Z") 8 0 ∷
    period (text "2000-01-01T23:00Z/2000-01-02T23:00Z") 0 96 ∷
    period (text "2099-12-30T23:00Z/2099-12-31T23:00Z") 0 96 ∷
    -- "A kind 1 period with 91 intervals: 3 at the end tag of Period; 95 where N is 96: 8 there."
    period_end 92 91 3 ∷
    period_end 96 95 8 ∷
    []

abbrev pub same_number : ℤ → ℤ → Bool
same_number (pos m) (pos n) = eqb m n
same_number (pos m) (negsuc n) = false
same_number (negsuc m) (pos n) = false
same_number (negsuc m) (negsuc n) = eqb m n

abbrev pub is_amount : Option ℤ → ℤ → Bool
is_amount (Some a) z = same_number a z
is_amount None z = false

abbrev pub has_note : Outcome → List ℕ → Bool
has_note o note = eqb o.answer.note (length note) && same o.note (padded 16 note)

abbrev pub has_outcome : Outcome → ℕ → ℕ → List ℕ → Bool
has_outcome o refusal place note = eqb o.answer.refusal refusal && (eqb o.answer.place place && has_note o note)

abbrev pub has_period : Judged → ℕ → ℕ → Bool
has_period j refusal n = eqb j.number refusal && eqb (quarter_hours j.first j.second) n

-- Documents are read with room for 64 series and 2,048 intervals, and a note buffer of 16 bytes.
abbrev pub passes : Example → Bool
passes (document doc refusal place note) = has_outcome (read_of doc (cells_of 64) 2048 2048 Old 16) refusal place note
passes (new_note_of doc note) = has_note (read_of doc (cells_of 64) 2048 2048 New 16) note
passes (amount cs z) = is_amount (amount_of cs) z
passes (no_amount cs) = is_none (amount_of cs)
passes (moment cs refusal) = eqb (form_refusal date_time_form cs) refusal
passes (period cs refusal n) = has_period (judge_period 1 cs) refusal n
passes (period_end quarters n refusal) = eqb (count_refusal 1 quarters n) refusal

abbrev pub all_pass : List Example → Bool
all_pass [] = true
all_pass (e ∷ es) = cond (passes e) (all_pass es) false
