-- The structure tables and guideline rows of the kinds, as docs/GUIDELINE.md has them: "element order, how often each may come, required attributes,
-- lengths and codes". Rows are counted from 0; a row that stands in row 12, in kind 3 in row 13, is one of the series.
use Rattle.std.specs.Prelude.{ℕ, ◌+◌, List, [], ◌∷◌, ◌++◌, cond, eqb, take, drop}
use Rattle.guideline.specs.Kinds.{kind_at}
use Rattle.columns.specs.Columns.{
  row,
  document,
  must,
  may,
  once,
  again,
  collapse,
  keep,
  no_form,
  identification_form,
  series_id_form,
  partner_form,
  version_form,
  date_time_form,
  period_form,
  interval_form,
  resolution_form,
  pos_form,
  amount_form,
  object_form,
  party_form,
  grid_element_form,
  document_type_one_list,
  document_type_two_list,
  process_type_list,
  party_scheme_list,
  eic_scheme_list,
  resource_scheme_list,
  role_list,
  sender_role_two_list,
  business_type_one_list,
  business_type_two_list,
  direction_list,
  product_list,
  area_list,
  curve_type_list,
  unit_one_list,
  unit_two_list,
  status_list,
  document_type_three_list,
  doc_status_list,
  business_type_three_list,
  resource_scheme_three_list,
  grid_scheme_list,
  unit_three_list,
  in_list,
  no_scheme,
  by_list,
  value_role,
  root_role,
  series_role,
  period_role,
  interval_role,
  original_role,
  object_role,
  business_role,
  series_id_role,
  pos_role,
  qty_role,
  direction_role,
  area_role,
}

-- kind 1
unfoldable pub beschaffungsanforderung : List ℕ
beschaffungsanforderung =
    document ∷
    row "Beschaffungsanforderung" 0 must once no_form keep no_scheme root_role ∷
    row "DocumentIdentification" 1 must once identification_form keep no_scheme value_role ∷
    row "DocumentVersion" 1 must once version_form collapse no_scheme value_role ∷
    row "DocumentType" 1 must once (in_list + document_type_one_list) collapse no_scheme value_role ∷
    row "ProcessType" 1 must once (in_list + process_type_list) collapse no_scheme value_role ∷
    row "SenderIdentification" 1 must once partner_form keep (by_list + party_scheme_list) value_role ∷
    row "SenderRole" 1 must once (in_list + role_list) collapse no_scheme value_role ∷
    row "ReceiverIdentification" 1 must once partner_form keep (by_list + party_scheme_list) value_role ∷
    row "ReceiverRole" 1 must once (in_list + role_list) collapse no_scheme value_role ∷
    row "DocumentDateTime" 1 must once date_time_form collapse no_scheme value_role ∷
    row "TimePeriodCovered" 1 must once period_form keep no_scheme value_role ∷
    row "ScheduleTimeSeries" 1 must again no_form keep no_scheme series_role ∷
    row "TimeSeriesIdentification" 12 must once series_id_form keep no_scheme series_id_role ∷
    row "BusinessType" 12 must once (in_list + business_type_one_list) collapse no_scheme business_role ∷
    row "Product" 12 must once (in_list + product_list) collapse no_scheme value_role ∷
    row "InArea" 12 must once (in_list + area_list) keep (by_list + eic_scheme_list) area_role ∷
    row "OutArea" 12 must once (in_list + area_list) keep (by_list + eic_scheme_list) value_role ∷
    row "InParty" 12 must once party_form keep (by_list + eic_scheme_list) object_role ∷
    row "OutParty" 12 must once party_form keep (by_list + eic_scheme_list) value_role ∷
    row "MeasurementUnit" 12 must once (in_list + unit_one_list) collapse no_scheme value_role ∷
    row "OriginalSenderIdentification" 12 may once partner_form keep (by_list + party_scheme_list) original_role ∷
    row "OriginalDocumentIdentification" 12 may once identification_form keep no_scheme original_role ∷
    row "OriginalDocumentVersion" 12 may once version_form keep no_scheme original_role ∷
    row "OriginalDocumentDateTime" 12 may once date_time_form collapse no_scheme original_role ∷
    row "OriginalTimeSeriesIdentification" 12 may once identification_form keep no_scheme original_role ∷
    row "Period" 12 must once no_form keep no_scheme period_role ∷
    row "TimeInterval" 26 must once interval_form keep no_scheme value_role ∷
    row "Resolution" 26 must once resolution_form collapse no_scheme value_role ∷
    row "Interval" 26 must again no_form keep no_scheme interval_role ∷
    row "Pos" 29 must once pos_form collapse no_scheme pos_role ∷
    row "Qty" 29 must once amount_form collapse no_scheme qty_role ∷
    []

-- kind 2
unfoldable pub kostenblatt : List ℕ
kostenblatt =
    document ∷
    row "Kostenblatt" 0 must once no_form keep no_scheme root_role ∷
    row "DocumentIdentification" 1 must once identification_form keep no_scheme value_role ∷
    row "DocumentVersion" 1 must once version_form collapse no_scheme value_role ∷
    row "DocumentType" 1 must once (in_list + document_type_two_list) collapse no_scheme value_role ∷
    row "ProcessType" 1 must once (in_list + process_type_list) collapse no_scheme value_role ∷
    row "SenderIdentification" 1 must once partner_form keep (by_list + party_scheme_list) value_role ∷
    row "SenderRole" 1 must once (in_list + sender_role_two_list) collapse no_scheme value_role ∷
    row "ReceiverIdentification" 1 must once partner_form keep (by_list + party_scheme_list) value_role ∷
    row "ReceiverRole" 1 must once (in_list + role_list) collapse no_scheme value_role ∷
    row "DocumentDateTime" 1 must once date_time_form collapse no_scheme value_role ∷
    row "TimePeriodCovered" 1 must once period_form keep no_scheme value_role ∷
    row "CostTimeSeries" 1 must again no_form keep no_scheme series_role ∷
    row "TimeSeriesIdentification" 12 must once series_id_form keep no_scheme series_id_role ∷
    row "BusinessType" 12 must once (in_list + business_type_two_list) collapse no_scheme business_role ∷
    row "Direction" 12 may once (in_list + direction_list) collapse no_scheme direction_role ∷
    row "Product" 12 must once (in_list + product_list) collapse no_scheme value_role ∷
    row "ConnectingArea" 12 may once (in_list + area_list) keep (by_list + eic_scheme_list) area_role ∷
    row "ResourceObject" 12 must once object_form keep (by_list + resource_scheme_list) object_role ∷
    row "ResourceProvider" 12 must once partner_form keep (by_list + party_scheme_list) value_role ∷
    row "CurveType" 12 must once (in_list + curve_type_list) collapse no_scheme value_role ∷
    row "MeasurementUnit" 12 must once (in_list + unit_two_list) collapse no_scheme value_role ∷
    row "Status" 12 may once (in_list + status_list) collapse no_scheme value_role ∷
    row "OriginalSenderIdentification" 12 may once partner_form keep (by_list + party_scheme_list) original_role ∷
    row "OriginalDocumentIdentification" 12 may once identification_form keep no_scheme original_role ∷
    row "OriginalDocumentVersion" 12 may once version_form keep no_scheme original_role ∷
    row "OriginalDocumentDateTime" 12 may once date_time_form collapse no_scheme original_role ∷
    row "OriginalTimeSeriesIdentification" 12 may once identification_form keep no_scheme original_role ∷
    row "Period" 12 must once no_form keep no_scheme period_role ∷
    row "TimeInterval" 28 must once interval_form keep no_scheme value_role ∷
    row "Resolution" 28 must once resolution_form collapse no_scheme value_role ∷
    row "Interval" 28 must again no_form keep no_scheme interval_role ∷
    row "Pos" 31 must once pos_form collapse no_scheme pos_role ∷
    row "Qty" 31 must once amount_form collapse no_scheme qty_role ∷
    []

-- kind 3
unfoldable pub network_constraint_document : List ℕ
network_constraint_document =
    document ∷
    row "NetworkConstraintDocument" 0 must once no_form keep no_scheme root_role ∷
    row "DocumentIdentification" 1 must once identification_form keep no_scheme value_role ∷
    row "DocumentVersion" 1 must once version_form collapse no_scheme value_role ∷
    row "DocumentType" 1 must once (in_list + document_type_three_list) collapse no_scheme value_role ∷
    row "ProcessType" 1 must once (in_list + process_type_list) collapse no_scheme value_role ∷
    row "SenderIdentification" 1 must once partner_form keep (by_list + party_scheme_list) value_role ∷
    row "SenderRole" 1 must once (in_list + role_list) collapse no_scheme value_role ∷
    row "ReceiverIdentification" 1 must once partner_form keep (by_list + party_scheme_list) value_role ∷
    row "ReceiverRole" 1 must once (in_list + role_list) collapse no_scheme value_role ∷
    row "DocumentDateTime" 1 must once date_time_form collapse no_scheme value_role ∷
    row "TimePeriodCovered" 1 must once period_form keep no_scheme value_role ∷
    row "DocStatus" 1 may once (in_list + doc_status_list) collapse no_scheme value_role ∷
    row "NetworkConstraintTimeSeries" 1 may again no_form keep no_scheme series_role ∷
    row "TimeSeriesIdentification" 13 must once series_id_form keep no_scheme series_id_role ∷
    row "BusinessType" 13 must once (in_list + business_type_three_list) collapse no_scheme business_role ∷
    row "Direction" 13 must once (in_list + direction_list) collapse no_scheme direction_role ∷
    row "ConnectingArea" 13 must once (in_list + area_list) keep (by_list + eic_scheme_list) area_role ∷
    row "ResourceObject" 13 must once grid_element_form keep (by_list + resource_scheme_three_list) object_role ∷
    row "ResourceProvider" 13 may once partner_form keep (by_list + party_scheme_list) value_role ∷
    row "RequestingGridOperator" 13 may once partner_form keep (by_list + party_scheme_list) value_role ∷
    row "GridElement" 13 may once grid_element_form keep (by_list + grid_scheme_list) value_role ∷
    row "MeasurementUnit" 13 must once (in_list + unit_three_list) collapse no_scheme value_role ∷
    row "OriginalSenderIdentification" 13 may once partner_form keep (by_list + party_scheme_list) original_role ∷
    row "OriginalDocumentIdentification" 13 may once identification_form keep no_scheme original_role ∷
    row "OriginalDocumentVersion" 13 may once version_form keep no_scheme original_role ∷
    row "OriginalDocumentDateTime" 13 may once date_time_form collapse no_scheme original_role ∷
    row "OriginalTimeSeriesIdentification" 13 may once identification_form keep no_scheme original_role ∷
    row "Period" 13 must once no_form keep no_scheme period_role ∷
    row "TimeInterval" 28 must once interval_form keep no_scheme value_role ∷
    row "Resolution" 28 must once resolution_form collapse no_scheme value_role ∷
    row "Interval" 28 must again no_form keep no_scheme interval_role ∷
    row "Pos" 31 must once pos_form collapse no_scheme pos_role ∷
    row "Qty" 31 must once amount_form collapse no_scheme qty_role ∷
    []

-- the rows of a kind. Kind 0 is a document whose root has not come, and it has none, as any other number that is no kind: nothing is due by no rows, and no
-- document is over
unfoldable pub rows_of : ℕ → List ℕ
rows_of k = cond (eqb k 1) beschaffungsanforderung (cond (eqb k 2) kostenblatt (cond (eqb k 3) network_constraint_document []))

-- the rows of all kinds one after the other, as they are lent down
unfoldable pub every_row : List ℕ
every_row = beschaffungsanforderung ++ kostenblatt ++ network_constraint_document

-- of such a table the rows of a kind
unfoldable pub rows_in : List ℕ → ℕ → List ℕ
rows_in rows k = take (kind_at k).count (drop (kind_at k).first rows)
