-- Documents that are accepted, with the answer, the tables and the note in full: a Kostenblatt of two series, the same with other identifications, and the same with
-- another amount.
use Rattle.std.specs.Prelude.{ℕ, List, [], ◌∷◌, ◌++◌, ℤ, pos, negsuc, take}
use Rattle.slices.specs.Text.{text}
use Rattle.reader.specs.Answer.{Outcome}
use Rattle.reader.specs.declared.Answer.{Answer}

-- with these two identifications, and this for the first amount
abbrev pub sheet_of : List ℕ → List ℕ → List ℕ → List ℕ
sheet_of first second amount =
    text "<Kostenblatt DtdBDEWNachrichtenVersion=\"1.0\">" ++
    text "<DocumentIdentification v=\"D\"/><DocumentVersion v=\"1\"/><DocumentType v=\"Z05\"/><ProcessType v=\"A14\"/>" ++
    text "<SenderIdentification v=\"9900000000001\" codingScheme=\"A10\"/><SenderRole v=\"A18\"/>" ++
    text "<ReceiverIdentification v=\"9900000000002\" codingScheme=\"A10\"/><ReceiverRole v=\"A39\"/>" ++
    text "<DocumentDateTime v=\"2024-01-01T00:00:00Z\"/><TimePeriodCovered v=\"2024-01-01T00:00Z/2024-01-01T00:30Z\"/>" ++
    text "<CostTimeSeries><TimeSeriesIdentification v=\"" ++ first ++ text "\"/><BusinessType v=\" A01 \"/><Direction v=\" A02 \"/><Product v=\"8716867000016\"/>" ++
    text "<ConnectingArea v=\"10YDE-EON------1\" codingScheme=\"A01\"/>" ++
    text "<ResourceObject v=\"A1234567890\" codingScheme=\"NDE\"/><ResourceProvider v=\"9900000000003\" codingScheme=\"A10\"/>" ++
    text "<CurveType v=\"A03\"/><MeasurementUnit v=\"Z01\"/>" ++
    text "<Period><TimeInterval v=\"2024-01-01T00:00Z/2024-01-01T00:30Z\"/><Resolution v=\"PT15M\"/>" ++
    text "<Interval><Pos v=\"1\"/><Qty v=\"" ++ amount ++ text "\"/></Interval></Period></CostTimeSeries>" ++
    text "<CostTimeSeries><TimeSeriesIdentification v=\"" ++ second ++ text "\"/><BusinessType v=\"Z03\"/><Product v=\"8716867000016\"/>" ++
    text "<ResourceObject v=\"C0000000002\" codingScheme=\"NDE\"/><ResourceProvider v=\"9900000000003\" codingScheme=\"A10\"/>" ++
    text "<CurveType v=\"A03\"/><MeasurementUnit v=\"Z01\"/>" ++
    text "<Period><TimeInterval v=\"2024-01-01T00:00Z/2024-01-01T00:30Z\"/><Resolution v=\"PT15M\"/>" ++
    text "<Interval><Pos v=\"1\"/><Qty v=\"-0.001\"/></Interval><Interval><Pos v=\"2\"/><Qty v=\"20\"/></Interval></Period></CostTimeSeries>" ++
    text "</Kostenblatt>"

abbrev pub sheet_with : List ℕ → List ℕ → List ℕ
sheet_with first second = sheet_of first second (text "1.5")

abbrev pub sheet : List ℕ
sheet = sheet_with (text "S1") (text "S2")

-- by a rule that is one-to-one: `S1` becomes `XX` and `S2` becomes `XY`
abbrev pub renamed_sheet : List ℕ
renamed_sheet = sheet_with (text "XX") (text "XY")

-- by one that is not: both become `XX`
abbrev pub twice_sheet : List ℕ
twice_sheet = sheet_with (text "XX") (text "XX")

-- with another digit in a Qty
abbrev pub dearer_sheet : List ℕ
dearer_sheet = sheet_of (text "S1") (text "S2") (text "9.5")

-- In tables of 25, 4 and 4 cells and a note buffer of 16 bytes. Each row of the series table: start and length of TimeSeriesIdentification, of
-- ResourceObject, of BusinessType, which is ` A01 ` in the first, of Direction, which is ` A02 `, and of ConnectingArea, both of which the second has not;
-- the first interval row; the interval count.
abbrev pub outcome_with : ℤ → Outcome
outcome_with amount =
    record {
      answer = record { refusal = 0; place = 1387; kind = 2; series = 2; intervals = 3; quarters = 2; note = 6 };
      tables =
          record {
            series =
                460 ∷ 2 ∷ 616 ∷ 11 ∷ 483 ∷ 3 ∷ 505 ∷ 3 ∷ 559 ∷ 16 ∷ 0 ∷ 1 ∷
                955 ∷ 2 ∷ 1030 ∷ 11 ∷ 977 ∷ 3 ∷ 0 ∷ 0 ∷ 0 ∷ 0 ∷ 1 ∷ 2 ∷
                0 ∷ [];
            positions = 1 ∷ 1 ∷ 2 ∷ 0 ∷ [];
            amounts = amount ∷ negsuc 0 ∷ pos 20000 ∷ pos 0 ∷ [];
          };
      note = 0x00 ∷ 0xEB ∷ 0x0A ∷ 0x02 ∷ 0x02 ∷ 0x03 ∷ 0 ∷ 0 ∷ 0 ∷ 0 ∷ 0 ∷ 0 ∷ 0 ∷ 0 ∷ 0 ∷ 0 ∷ [];
    }

abbrev pub sheet_outcome : Outcome
sheet_outcome = outcome_with (pos 1500)

abbrev pub dearer_outcome : Outcome
dearer_outcome = outcome_with (pos 9500)

-- "9: TimeSeriesIdentification used before in this document", at the second one
abbrev pub twice_answer : Answer
twice_answer = record { refusal = 9; place = 926; kind = 2; series = 2; intervals = 1; quarters = 0; note = 6 }

-- it up to the end of that tag, and then anything
abbrev pub broken_sheet : List ℕ
broken_sheet = take 960 twice_sheet ++ text "&"

-- the sheet, and a tag behind its end
abbrev pub longer_sheet : List ℕ
longer_sheet = sheet ++ text "<a/>"

abbrev pub number_and_place : Outcome → ℕ × ℕ
number_and_place o = (o.answer.refusal, o.answer.place)

-- A NetworkConstraintDocument of two series, an A77 and a B59, and one that withdraws and has none.
abbrev pub constraint_head : List ℕ
constraint_head =
    text "<NetworkConstraintDocument DtdVersion=\"4\" DtdRelease=\"1\">" ++
    text "<DocumentIdentification v=\"D\"/><DocumentVersion v=\"1\"/><DocumentType v=\"B15\"/><ProcessType v=\"A14\"/>" ++
    text "<SenderIdentification v=\"9900000000001\" codingScheme=\"A10\"/><SenderRole v=\"A18\"/>" ++
    text "<ReceiverIdentification v=\"9900000000002\" codingScheme=\"A10\"/><ReceiverRole v=\"A39\"/>" ++
    text "<DocumentDateTime v=\"2024-01-01T00:00:00Z\"/><TimePeriodCovered v=\"2024-01-01T00:00Z/2024-01-01T00:30Z\"/>"

abbrev pub constraint_sheet : List ℕ
constraint_sheet =
    constraint_head ++
    text "<NetworkConstraintTimeSeries><TimeSeriesIdentification v=\"S1\"/><BusinessType v=\" A77 \"/><Direction v=\" A02 \"/>" ++
    text "<ConnectingArea v=\"10YDE-EON------1\" codingScheme=\"A01\"/><ResourceObject v=\"\" codingScheme=\"Z01\"/><MeasurementUnit v=\"MAW\"/>" ++
    text "<Period><TimeInterval v=\"2024-01-01T00:00Z/2024-01-01T00:30Z\"/><Resolution v=\"PT15M\"/>" ++
    text "<Interval><Pos v=\"1\"/><Qty v=\"1.5\"/></Interval></Period></NetworkConstraintTimeSeries>" ++
    text "<NetworkConstraintTimeSeries><TimeSeriesIdentification v=\"S2\"/><BusinessType v=\"B59\"/><Direction v=\"A01\"/>" ++
    text "<ConnectingArea v=\"10YDE-EON------1\" codingScheme=\"A01\"/><ResourceObject v=\"A1234567890\" codingScheme=\"NDE\"/>" ++
    text "<GridElement v=\"E\" codingScheme=\"Z01\"/><MeasurementUnit v=\"C62\"/>" ++
    text "<Period><TimeInterval v=\"2024-01-01T00:00Z/2024-01-01T00:30Z\"/><Resolution v=\"PT15M\"/>" ++
    text "<Interval><Pos v=\"1\"/><Qty v=\"0.5\"/></Interval><Interval><Pos v=\"2\"/><Qty v=\"1\"/></Interval></Period></NetworkConstraintTimeSeries>" ++
    text "</NetworkConstraintDocument>"

abbrev pub withdrawn_sheet : List ℕ
withdrawn_sheet = constraint_head ++ text "<DocStatus v=\"A13\"/></NetworkConstraintDocument>"

-- In tables of 25, 4 and 4 cells, as above.
abbrev pub constraint_outcome : Outcome
constraint_outcome =
    record {
      answer = record { refusal = 0; place = 1358; kind = 3; series = 2; intervals = 3; quarters = 2; note = 6 };
      tables =
          record {
            series =
                485 ∷ 2 ∷ 613 ∷ 0 ∷ 508 ∷ 3 ∷ 530 ∷ 3 ∷ 556 ∷ 16 ∷ 0 ∷ 1 ∷
                891 ∷ 2 ∷ 1015 ∷ 11 ∷ 913 ∷ 3 ∷ 933 ∷ 3 ∷ 958 ∷ 16 ∷ 1 ∷ 2 ∷
                0 ∷ [];
            positions = 1 ∷ 1 ∷ 2 ∷ 0 ∷ [];
            amounts = pos 1500 ∷ pos 500 ∷ pos 1000 ∷ pos 0 ∷ [];
          };
      note = 0x00 ∷ 0xCE ∷ 0x0A ∷ 0x03 ∷ 0x02 ∷ 0x03 ∷ 0 ∷ 0 ∷ 0 ∷ 0 ∷ 0 ∷ 0 ∷ 0 ∷ 0 ∷ 0 ∷ 0 ∷ [];
    }

-- In tables of no cells.
abbrev pub withdrawn_outcome : Outcome
withdrawn_outcome =
    record {
      answer = record { refusal = 0; place = 475; kind = 3; series = 0; intervals = 0; quarters = 2; note = 6 };
      tables = record { series = []; positions = []; amounts = [] };
      note = 0x00 ∷ 0xDB ∷ 0x03 ∷ 0x03 ∷ 0x00 ∷ 0x00 ∷ 0 ∷ 0 ∷ 0 ∷ 0 ∷ 0 ∷ 0 ∷ 0 ∷ 0 ∷ 0 ∷ 0 ∷ [];
    }
