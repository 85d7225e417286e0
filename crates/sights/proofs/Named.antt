-- "Where each value stands in a row is by name": the pair of each element's first value, as the header of the library has it, by the rows of its kind. Where
-- an element has a codingScheme, that is the pair after it. Assumes nothing.
use Prim.Native.Nat.{ℕ}
use Prim.Native.String.{String}
use mathlib.Core.Path.{◌≡◌, refl}
use mathlib.Core.List.{List, [], ◌∷◌, ◌++◌}
use mathlib.Core.Bool.{Bool, true, false, cond}
use lib.Dec.{eqb}
use Rattle.slices.specs.Same.{same}
use Rattle.elements.specs.Names.{names, number_in, element_no}
use Rattle.structure.specs.Rows.{name_of}
use Rattle.columns.specs.Columns.{role_of, form_of, scheme_of}
use Rattle.guideline.specs.Rows.{beschaffungsanforderung, kostenblatt, network_constraint_document, rows_of}
use Rattle.states.specs.Attributes.{asks_v, asks_scheme}
use Rattle.views.specs.Layout.{values_of, pair_after, pairs_after, first_pair, row_named, pair_of}

record Named : Type 0 where
  name : String
  pair : ℕ

abbrev at : ℕ → String → Named
at k name = record { name = name; pair = k }

abbrev all_at : List ℕ → List Named → Bool
all_at rows [] = true
all_at rows (x ∷ xs) = cond (eqb (pair_of rows x.name) x.pair) (all_at rows xs) false

abbrev header : List Named
header =
    at 3 "DocumentIdentification" ∷
    at 4 "DocumentVersion" ∷
    at 5 "DocumentType" ∷
    at 6 "ProcessType" ∷
    at 7 "SenderIdentification" ∷
    at 9 "SenderRole" ∷
    at 10 "ReceiverIdentification" ∷
    at 12 "ReceiverRole" ∷
    at 13 "DocumentDateTime" ∷
    at 14 "TimePeriodCovered" ∷
    []

abbrev series_one : List Named
series_one =
    at 0 "Beschaffungsanforderung" ∷
    at 16 "TimeSeriesIdentification" ∷
    at 17 "BusinessType" ∷
    at 18 "Product" ∷
    at 19 "InArea" ∷
    at 21 "OutArea" ∷
    at 23 "InParty" ∷
    at 25 "OutParty" ∷
    at 27 "MeasurementUnit" ∷
    at 28 "OriginalSenderIdentification" ∷
    at 30 "OriginalDocumentIdentification" ∷
    at 31 "OriginalDocumentVersion" ∷
    at 32 "OriginalDocumentDateTime" ∷
    at 33 "OriginalTimeSeriesIdentification" ∷
    at 34 "TimeInterval" ∷
    at 35 "Resolution" ∷
    []

abbrev series_two : List Named
series_two =
    at 0 "Kostenblatt" ∷
    at 16 "TimeSeriesIdentification" ∷
    at 17 "BusinessType" ∷
    at 18 "Direction" ∷
    at 19 "Product" ∷
    at 20 "ConnectingArea" ∷
    at 22 "ResourceObject" ∷
    at 24 "ResourceProvider" ∷
    at 26 "CurveType" ∷
    at 27 "MeasurementUnit" ∷
    at 28 "Status" ∷
    at 29 "OriginalSenderIdentification" ∷
    at 31 "OriginalDocumentIdentification" ∷
    at 32 "OriginalDocumentVersion" ∷
    at 33 "OriginalDocumentDateTime" ∷
    at 34 "OriginalTimeSeriesIdentification" ∷
    at 35 "TimeInterval" ∷
    at 36 "Resolution" ∷
    []

abbrev series_three : List Named
series_three =
    at 0 "NetworkConstraintDocument" ∷
    at 15 "DocStatus" ∷
    at 16 "TimeSeriesIdentification" ∷
    at 17 "BusinessType" ∷
    at 18 "Direction" ∷
    at 19 "ConnectingArea" ∷
    at 21 "ResourceObject" ∷
    at 23 "ResourceProvider" ∷
    at 25 "RequestingGridOperator" ∷
    at 27 "GridElement" ∷
    at 29 "MeasurementUnit" ∷
    at 30 "OriginalSenderIdentification" ∷
    at 32 "OriginalDocumentIdentification" ∷
    at 33 "OriginalDocumentVersion" ∷
    at 34 "OriginalDocumentDateTime" ∷
    at 35 "OriginalTimeSeriesIdentification" ∷
    at 36 "TimeInterval" ∷
    at 37 "Resolution" ∷
    []

pub named-pairs : (all_at (rows_of 1) (header ++ series_one) ≡ true) × (all_at (rows_of 2) (header ++ series_two) ≡ true) × (all_at (rows_of 3) (header ++ series_three) ≡ true)
unfolding rows_of beschaffungsanforderung kostenblatt network_constraint_document element_no number_in names same name_of row_named pair_of values_of pair_after pairs_after first_pair asks_v asks_scheme role_of form_of scheme_of
named-pairs = (refl, refl, refl)
