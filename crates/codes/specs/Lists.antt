-- The code lists of the guideline, each once, and whether a value is in one: "A value with a code list is judged by that list alone."
use Rattle.std.specs.Prelude.{ℕ, List, [], ◌∷◌, Bool, true, false, cond, get_or}
use Rattle.slices.specs.Same.{same}
use Rattle.slices.specs.Text.{text}

-- DocumentType: Beschaffungsanforderung; Kostenblatt
abbrev pub document_type_one : List (List ℕ)
document_type_one = text "Z07" ∷ []

abbrev pub document_type_two : List (List ℕ)
document_type_two = text "Z05" ∷ []

abbrev pub process_type : List (List ℕ)
process_type = text "A14" ∷ []

-- codingScheme of market partners; of areas, InParty and OutParty; of ResourceObject in a Kostenblatt
abbrev pub party_scheme : List (List ℕ)
party_scheme = text "A10" ∷ text "NDE" ∷ []

abbrev pub eic_scheme : List (List ℕ)
eic_scheme = text "A01" ∷ []

abbrev pub resource_scheme : List (List ℕ)
resource_scheme = text "NDE" ∷ []

-- SenderRole and ReceiverRole, but for SenderRole of a Kostenblatt
abbrev pub role : List (List ℕ)
role = text "A18" ∷ text "A39" ∷ []

abbrev pub sender_role_two : List (List ℕ)
sender_role_two = text "A18" ∷ text "A27" ∷ text "A39" ∷ []

-- BusinessType: Beschaffungsanforderung; Kostenblatt
abbrev pub business_type_one : List (List ℕ)
business_type_one = text "A02" ∷ []

abbrev pub business_type_two : List (List ℕ)
business_type_two = text "A01" ∷ text "A04" ∷ text "Z01" ∷ text "Z02" ∷ text "Z03" ∷ []

abbrev pub direction : List (List ℕ)
direction = text "A01" ∷ text "A02" ∷ []

abbrev pub product : List (List ℕ)
product = text "8716867000016" ∷ []

-- "Areas, sixteen characters"
abbrev pub area : List (List ℕ)
area =
    text "10YDE-ENBW-----N" ∷
    text "10YDE-EON------1" ∷
    text "10YDE-RWENET---I" ∷
    text "10YDE-VE-------2" ∷
    text "10YFLENSBURG---3" ∷ []

abbrev pub curve_type : List (List ℕ)
curve_type = text "A03" ∷ []

-- MeasurementUnit: Beschaffungsanforderung; Kostenblatt
abbrev pub unit_one : List (List ℕ)
unit_one = text "MAW" ∷ []

abbrev pub unit_two : List (List ℕ)
unit_two = text "Z01" ∷ text "Z02" ∷ text "Z03" ∷ []

abbrev pub status : List (List ℕ)
status = text "Z01" ∷ text "Z02" ∷ text "Z03" ∷ text "Z04" ∷ text "Z05" ∷ []

-- what a NetworkConstraintDocument has of its own: DocumentType, DocStatus, BusinessType; codingScheme of ResourceObject and of GridElement; MeasurementUnit
abbrev pub document_type_three : List (List ℕ)
document_type_three = text "B15" ∷ []

abbrev pub doc_status : List (List ℕ)
doc_status = text "A13" ∷ []

abbrev pub business_type_three : List (List ℕ)
business_type_three = text "A77" ∷ text "B59" ∷ []

abbrev pub resource_scheme_three : List (List ℕ)
resource_scheme_three = text "A01" ∷ text "A02" ∷ text "NDE" ∷ text "Z01" ∷ []

abbrev pub grid_scheme : List (List ℕ)
grid_scheme = text "A01" ∷ text "A02" ∷ text "Z01" ∷ []

abbrev pub unit_three : List (List ℕ)
unit_three = text "C62" ∷ text "MAW" ∷ []

-- the lists by their numbers, from 0, in the order of docs/GUIDELINE.md, section 5
unfoldable pub lists : List (List (List ℕ))
lists =
    document_type_one ∷ document_type_two ∷ process_type ∷ party_scheme ∷ eic_scheme ∷ resource_scheme ∷ role ∷ sender_role_two ∷
    business_type_one ∷ business_type_two ∷ direction ∷ product ∷ area ∷ curve_type ∷ unit_one ∷ unit_two ∷ status ∷
    document_type_three ∷ doc_status ∷ business_type_three ∷ resource_scheme_three ∷ grid_scheme ∷ unit_three ∷ []

-- the codes of a list; a number that no list has lists nothing
unfoldable pub codes_of : ℕ → List (List ℕ)
codes_of k = get_or lists k []

-- one of the codes is the same as l
unfoldable pub listed : List (List ℕ) → List ℕ → Bool
listed [] l = false
listed (c ∷ cs) l = cond (same c l) true (listed cs l)
