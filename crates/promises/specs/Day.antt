-- A Beschaffungsanforderung of the shortest day, on which the clocks go forward: a series of 92 Intervals, which is as few as kind 1 may have. With the answer, the tables
-- and the note in full.
use Rattle.std.specs.Prelude.{ℕ, zero, suc, ◌+◌, ◌/◌, ◌%◌, List, [], ◌∷◌, ◌++◌, cond, ltb, pos, replicate}
use Rattle.slices.specs.Text.{text}
use Rattle.reader.specs.Answer.{Outcome}

-- a number below 100, in digits
unfoldable pub two_digits : ℕ → List ℕ
two_digits p = cond (ltb p 10) ((0x30 + p) ∷ []) ((0x30 + p / 10) ∷ (0x30 + p % 10) ∷ [])

abbrev pub interval_text : ℕ → List ℕ
interval_text p = text "<Interval><Pos v=\"" ++ two_digits p ++ text "\"/><Qty v=\"1\"/></Interval>"

-- n Intervals, from this Pos on
unfoldable pub interval_texts : ℕ → ℕ → List ℕ
interval_texts p zero = []
interval_texts p (suc n) = interval_text p ++ interval_texts (suc p) n

abbrev pub short_day : List ℕ
short_day =
    text "<Beschaffungsanforderung DtdBDEWNachrichtenVersion=\"1.0\">" ++
    text "<DocumentIdentification v=\"D\"/><DocumentVersion v=\"1\"/><DocumentType v=\"Z07\"/><ProcessType v=\"A14\"/>" ++
    text "<SenderIdentification v=\"9900000000001\" codingScheme=\"A10\"/><SenderRole v=\"A18\"/>" ++
    text "<ReceiverIdentification v=\"9900000000002\" codingScheme=\"A10\"/><ReceiverRole v=\"A39\"/>" ++
    text "<DocumentDateTime v=\"2024-03-30T00:00:00Z\"/><TimePeriodCovered v=\"2024-03-30T23:00Z/2024-03-31T22:00Z\"/>" ++
    text "<ScheduleTimeSeries><TimeSeriesIdentification v=\"S1\"/><BusinessType v=\"A02\"/><Product v=\"8716867000016\"/>" ++
    text "<InArea v=\"10YDE-VE-------2\" codingScheme=\"A01\"/><OutArea v=\"10YDE-RWENET---I\" codingScheme=\"A01\"/>" ++
    text "<InParty v=\"11XINVENTED-IN-A\" codingScheme=\"A01\"/><OutParty v=\"11XINVENTED-OUT9\" codingScheme=\"A01\"/><MeasurementUnit v=\"MAW\"/>" ++
    text "<Period><TimeInterval v=\"2024-03-30T23:00Z/2024-03-31T22:00Z\"/><Resolution v=\"PT15M\"/>" ++
    interval_texts 1 92 ++ text "</Period></ScheduleTimeSeries></Beschaffungsanforderung>"

-- n numbers, from p on
unfoldable pub counted_from : ℕ → ℕ → List ℕ
counted_from p zero = []
counted_from p (suc n) = p ∷ counted_from (suc p) n

-- In tables of 12, 92 and 92 cells and a note buffer of 16 bytes.
abbrev pub day_outcome : Outcome
day_outcome =
    record {
      answer = record { refusal = 0; place = 5123; kind = 1; series = 1; intervals = 92; quarters = 92; note = 6 };
      tables =
          record {
            series = 476 ∷ 2 ∷ 643 ∷ 16 ∷ 498 ∷ 3 ∷ 0 ∷ 0 ∷ 543 ∷ 16 ∷ 0 ∷ 92 ∷ [];
            positions = counted_from 1 92;
            amounts = replicate 92 (pos 1000);
          };
      note = 0x00 ∷ 0x83 ∷ 0x28 ∷ 0x01 ∷ 0x01 ∷ 0x5C ∷ 0 ∷ 0 ∷ 0 ∷ 0 ∷ 0 ∷ 0 ∷ 0 ∷ 0 ∷ 0 ∷ 0 ∷ [];
    }
