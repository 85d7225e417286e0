-- The names of all elements of all kinds, each once, and the number that each has by its place.
use Rattle.std.specs.Prelude.{ℕ, ◌+◌, List, [], ◌∷◌, cond}
use Rattle.slices.specs.Same.{same}
use Rattle.slices.specs.Text.{text}

-- in the order in which the structure tables first have them: Beschaffungsanforderung's, then what Kostenblatt adds, then what NetworkConstraintDocument adds
unfoldable pub names : List (List ℕ)
names =
    text "Beschaffungsanforderung" ∷
    text "DocumentIdentification" ∷
    text "DocumentVersion" ∷
    text "DocumentType" ∷
    text "ProcessType" ∷
    text "SenderIdentification" ∷
    text "SenderRole" ∷
    text "ReceiverIdentification" ∷
    text "ReceiverRole" ∷
    text "DocumentDateTime" ∷
    text "TimePeriodCovered" ∷
    text "ScheduleTimeSeries" ∷
    text "TimeSeriesIdentification" ∷
    text "BusinessType" ∷
    text "Product" ∷
    text "InArea" ∷
    text "OutArea" ∷
    text "InParty" ∷
    text "OutParty" ∷
    text "MeasurementUnit" ∷
    text "OriginalSenderIdentification" ∷
    text "OriginalDocumentIdentification" ∷
    text "OriginalDocumentVersion" ∷
    text "OriginalDocumentDateTime" ∷
    text "OriginalTimeSeriesIdentification" ∷
    text "Period" ∷
    text "TimeInterval" ∷
    text "Resolution" ∷
    text "Interval" ∷
    text "Pos" ∷
    text "Qty" ∷
    text "Kostenblatt" ∷
    text "CostTimeSeries" ∷
    text "Direction" ∷
    text "ConnectingArea" ∷
    text "ResourceObject" ∷
    text "ResourceProvider" ∷
    text "CurveType" ∷
    text "Status" ∷
    text "NetworkConstraintDocument" ∷
    text "DocStatus" ∷
    text "NetworkConstraintTimeSeries" ∷
    text "RequestingGridOperator" ∷
    text "GridElement" ∷
    []

-- the number of the first of these names that is n, where the first of them has the number k; 0 where none is
unfoldable pub number_in : List ℕ → ℕ → List (List ℕ) → ℕ
number_in n k [] = 0
number_in n k (w ∷ ws) = let rest = number_in n (k + 1) ws in cond (same n w) k rest

-- the number of an element's name, counted from 1; 0 for a name that no kind has
unfoldable pub element_no : List ℕ → ℕ
element_no n = number_in n 1 names
