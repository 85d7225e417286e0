-- The columns of a row, and the words that the tables are written with. Numbers are compared by these words everywhere else.
use Rattle.std.specs.Prelude.{ℕ, ◌+◌, ◌*◌, ◌/◌, ◌%◌, Bool, eqb}
use Prim.Native.String.{String}
use Rattle.slices.specs.Text.{text}
use Rattle.elements.specs.Names.{element_no}

-- a row as a number: its name, the row that it stands in, whether it has to come, whether it may come again, the form of `v`,
-- what becomes of spaces at both ends of `v`, the code list of codingScheme, and what it is to the reader
abbrev pub columns : ℕ → ℕ → ℕ → ℕ → ℕ → ℕ → ℕ → ℕ → ℕ
columns name parent must again form spaces scheme role =
    name + 256 * parent + 65536 * must + 131072 * again + 262144 * spaces + 16777216 * form + 4294967296 * scheme + 1099511627776 * role

-- an element's row, by the element's name
abbrev pub row : String → ℕ → ℕ → ℕ → ℕ → ℕ → ℕ → ℕ → ℕ
row name = columns (element_no (text name))

-- row 0, the document as a whole: it stands in no row, and bears a name that no element has
abbrev pub document : ℕ
document = columns 255 255 1 0 0 0 0 0

-- whether spaces are dropped from `v`
unfoldable pub collapsed : ℕ → Bool
collapsed w = eqb (w / 262144 % 2) 1

unfoldable pub form_of : ℕ → ℕ
form_of w = w / 16777216 % 256

unfoldable pub scheme_of : ℕ → ℕ
scheme_of w = w / 4294967296 % 256

unfoldable pub role_of : ℕ → ℕ
role_of w = w / 1099511627776 % 256

-- whether it has to come
abbrev pub must : ℕ
must = 1

abbrev pub may : ℕ
may = 0

-- whether it may come again
abbrev pub once : ℕ
once = 0

abbrev pub again : ℕ
again = 1

-- spaces at both ends of `v`: "where the guideline says collapse, leading and trailing spaces are dropped; where it says preserve, or says nothing, none are"
abbrev pub collapse : ℕ
collapse = 1

abbrev pub keep : ℕ
keep = 0

-- forms of `v`; an element with `no_form` has no `v`
abbrev pub no_form : ℕ
no_form = 0

abbrev pub identification_form : ℕ
identification_form = 1

abbrev pub series_id_form : ℕ
series_id_form = 2

abbrev pub partner_form : ℕ
partner_form = 3

abbrev pub version_form : ℕ
version_form = 4

abbrev pub date_time_form : ℕ
date_time_form = 5

-- TimePeriodCovered
abbrev pub period_form : ℕ
period_form = 6

-- TimeInterval
abbrev pub interval_form : ℕ
interval_form = 7

abbrev pub resolution_form : ℕ
resolution_form = 8

abbrev pub pos_form : ℕ
pos_form = 9

abbrev pub amount_form : ℕ
amount_form = 10

-- ResourceObject of kind 2
abbrev pub object_form : ℕ
object_form = 11

-- InParty, OutParty
abbrev pub party_form : ℕ
party_form = 12

-- ResourceObject of kind 3, GridElement
abbrev pub grid_element_form : ℕ
grid_element_form = 13

-- code lists: the place of each in section 5 of docs/GUIDELINE.md, counted from 0
abbrev pub document_type_one_list : ℕ
document_type_one_list = 0

abbrev pub document_type_two_list : ℕ
document_type_two_list = 1

abbrev pub process_type_list : ℕ
process_type_list = 2

abbrev pub party_scheme_list : ℕ
party_scheme_list = 3

abbrev pub eic_scheme_list : ℕ
eic_scheme_list = 4

abbrev pub resource_scheme_list : ℕ
resource_scheme_list = 5

abbrev pub role_list : ℕ
role_list = 6

abbrev pub sender_role_two_list : ℕ
sender_role_two_list = 7

abbrev pub business_type_one_list : ℕ
business_type_one_list = 8

abbrev pub business_type_two_list : ℕ
business_type_two_list = 9

abbrev pub direction_list : ℕ
direction_list = 10

abbrev pub product_list : ℕ
product_list = 11

abbrev pub area_list : ℕ
area_list = 12

abbrev pub curve_type_list : ℕ
curve_type_list = 13

abbrev pub unit_one_list : ℕ
unit_one_list = 14

abbrev pub unit_two_list : ℕ
unit_two_list = 15

abbrev pub status_list : ℕ
status_list = 16

abbrev pub document_type_three_list : ℕ
document_type_three_list = 17

abbrev pub doc_status_list : ℕ
doc_status_list = 18

abbrev pub business_type_three_list : ℕ
business_type_three_list = 19

abbrev pub resource_scheme_three_list : ℕ
resource_scheme_three_list = 20

abbrev pub grid_scheme_list : ℕ
grid_scheme_list = 21

abbrev pub unit_three_list : ℕ
unit_three_list = 22

-- "A value with a code list is judged by that list alone": the forms from here on are code lists
abbrev pub in_list : ℕ
in_list = 32

-- the column of codingScheme has this and the list's number; an element with `no_scheme` has no codingScheme
abbrev pub no_scheme : ℕ
no_scheme = 0

abbrev pub by_list : ℕ
by_list = 1

-- what a row is to the reader; `value_role` is nothing but its value
abbrev pub value_role : ℕ
value_role = 0

abbrev pub root_role : ℕ
root_role = 1

abbrev pub series_role : ℕ
series_role = 2

abbrev pub period_role : ℕ
period_role = 3

abbrev pub interval_role : ℕ
interval_role = 4

abbrev pub original_role : ℕ
original_role = 5

abbrev pub object_role : ℕ
object_role = 6

abbrev pub business_role : ℕ
business_role = 7

abbrev pub series_id_role : ℕ
series_id_role = 8

abbrev pub pos_role : ℕ
pos_role = 9

abbrev pub qty_role : ℕ
qty_role = 10

abbrev pub direction_role : ℕ
direction_role = 11

-- ConnectingArea, and InArea in kind 1
abbrev pub area_role : ℕ
area_role = 12
