-- The columns name code lists by numbers; each number is that of the list whose name the column's word has. One statement for all of them, so that no row
-- can mean another list than it reads. Assumes nothing.
use mathlib.Core.Path.{◌≡◌, refl}
use mathlib.Core.List.{[], ◌∷◌, map}
use Rattle.columns.specs.Columns.{
  document_type_one_list,
  document_type_two_list,
  process_type_list,
  party_scheme_list,
  eic_scheme_list,
  resource_scheme_list,
  role_list,
  sender_role_two_list,
  business_type_one_list,
  business_type_two_list,
  direction_list,
  product_list,
  area_list,
  curve_type_list,
  unit_one_list,
  unit_two_list,
  status_list,
  document_type_three_list,
  doc_status_list,
  business_type_three_list,
  resource_scheme_three_list,
  grid_scheme_list,
  unit_three_list,
}
use Rattle.codes.specs.Lists.{
  document_type_one,
  document_type_two,
  process_type,
  party_scheme,
  eic_scheme,
  resource_scheme,
  role,
  sender_role_two,
  business_type_one,
  business_type_two,
  direction,
  product,
  area,
  curve_type,
  unit_one,
  unit_two,
  status,
  document_type_three,
  doc_status,
  business_type_three,
  resource_scheme_three,
  grid_scheme,
  unit_three,
  lists,
  codes_of,
}

pub lists_named : map codes_of
    (document_type_one_list ∷ document_type_two_list ∷ process_type_list ∷ party_scheme_list ∷ eic_scheme_list ∷ resource_scheme_list ∷ role_list ∷ sender_role_two_list ∷
    business_type_one_list ∷ business_type_two_list ∷ direction_list ∷ product_list ∷ area_list ∷ curve_type_list ∷ unit_one_list ∷ unit_two_list ∷ status_list ∷
    document_type_three_list ∷ doc_status_list ∷ business_type_three_list ∷ resource_scheme_three_list ∷ grid_scheme_list ∷ unit_three_list ∷ [])
    ≡ document_type_one ∷ document_type_two ∷ process_type ∷ party_scheme ∷ eic_scheme ∷ resource_scheme ∷ role ∷ sender_role_two ∷
    business_type_one ∷ business_type_two ∷ direction ∷ product ∷ area ∷ curve_type ∷ unit_one ∷ unit_two ∷ status ∷
    document_type_three ∷ doc_status ∷ business_type_three ∷ resource_scheme_three ∷ grid_scheme ∷ unit_three ∷ []
unfolding codes_of lists
lists_named = refl
