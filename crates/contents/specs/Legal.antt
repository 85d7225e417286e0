-- What a legal document is: a content that meets every rule of the guideline, by its values alone. Elements stand one in another as a tree; an element is
-- known by its row in the structure table of the kind.
use Rattle.std.specs.Prelude.{ℕ, ◌+◌, ◌-◌, ◌≤◌, ◌≡◌, List, [], ◌∷◌, ◌++◌, map, ◌⊎◌, Bool, true, false, cond, ◌&&◌, not, length, get_or, eqb, leb, ltb, Option, Some, None, unwrap_or}
use Rattle.slices.specs.Same.{same}
use Rattle.characters.specs.Says.{says}
use Rattle.trims.specs.Trim.{dropped}
use Rattle.codes.specs.Lists.{listed, codes_of}
use Rattle.numbers.specs.Number.{number_of}
use Rattle.times.specs.Times.{interval}
use Rattle.times.specs.Periods.{quarter_hours}
use Rattle.rules.specs.Rules.{change_type, bearing_type, type_no, direction_no, judge, position_fits}
use Rattle.columns.specs.Columns.{form_of, collapsed, scheme_of, role_of, no_form, period_form, pos_form, in_list, doc_status_list, no_scheme, by_list, root_role, series_role, interval_role, original_role, business_role, series_id_role, pos_role, direction_role}
use Rattle.guideline.specs.Kinds.{dtd_version, dtd_release, dtd_message, kind_at, fixed_for, is_kind, within_most, has_enough}
use Rattle.guideline.specs.Rows.{rows_of}
use Rattle.guideline.specs.declared.Demands.{Demands}
use Rattle.states.specs.Attributes.{agree, asks_v, asks_scheme, demands_at, meets, no_others}
use Rattle.states.specs.declared.Room.{Room}
use Rattle.trees.specs.Trees.{Trees, none, element, Conforms}
use Rattle.contents.specs.Said.{AttributeValue, Absent, Given, DtdSaid, TagSaid, given, bytes}

-- ---- the elements of a content

abbrev pub has_role : ℕ → ℕ → Bool
has_role role w = eqb (role_of w) role

abbrev pub has_form : ℕ → ℕ → Bool
has_form form w = eqb (form_of w) form

-- what is said by the elements whose row passes a test, one in another or side by side, in document order
unfoldable pub those : {A : Type 0} → (ℕ → Bool) → List ℕ → Trees A → List A
those test rows none = []
those test rows (element r tag inner after) =
    cond (test (get_or rows r 0)) (tag ∷ (those test rows inner ++ those test rows after)) (those test rows inner ++ those test rows after)

-- what stands in each of them
unfoldable pub in_each : {A : Type 0} → (ℕ → Bool) → List ℕ → Trees A → List (Trees A)
in_each test rows none = []
in_each test rows (element r tag inner after) =
    cond (test (get_or rows r 0)) (inner ∷ (in_each test rows inner ++ in_each test rows after)) (in_each test rows inner ++ in_each test rows after)

-- ---- what values say

-- "Where the guideline says collapse, leading and trailing spaces are dropped; where it says preserve, or says nothing, none are."
unfoldable pub sayings : ℕ → TagSaid → List ℕ
sayings w s = cond (collapsed w) (dropped (says (bytes s.v))) (says (bytes s.v))

-- from one minute to another
pub record Period : Type 0 where
  pub start : ℕ
  pub end : ℕ

unfoldable pub period_by : Option (ℕ × ℕ) → Period
period_by (Some (from, to)) = record { start = from; end = to }
period_by None = record { start = 0; end = 0 }

-- TimePeriodCovered, of which a conforming content has one
unfoldable pub period_in : Period → List TagSaid → Period
period_in p [] = p
period_in p (s ∷ ss) = period_in (period_by (interval (says (bytes s.v)))) ss

unfoldable pub period_of : List ℕ → Trees TagSaid → Period
period_of rows c = period_in (record { start = 0; end = 0 }) (those (has_form period_form) rows c)

-- "N is TimePeriodCovered's length divided by 15 minutes"
unfoldable pub quarters_of : Period → ℕ
quarters_of p = quarter_hours p.start p.end

-- Pos, which is collapsed; what is no number is 0, which no Pos may be
unfoldable pub position_by : Option ℕ → ℕ
position_by n = unwrap_or n 0

unfoldable pub position_of : TagSaid → ℕ
position_of s = position_by (number_of (dropped (says (bytes s.v))) 5)

-- ---- the rules of one element

-- the attributes that a root may have are as its kind asks
unfoldable pub dtd_agrees : Demands → DtdSaid → Bool
dtd_agrees demands d =
    meets demands.version (given d.version) && meets demands.release (given d.release) && meets demands.message (given d.message)

-- "5: attribute missing or unknown": those of the row are there, and no others
unfoldable pub attributes_agree : ℕ → ℕ → TagSaid → Bool
attributes_agree kind w s =
    agree (asks_v w) (given s.v) && agree (asks_scheme w) (given s.scheme) && dtd_agrees (demands_at kind w) s.dtd &&
    no_others w s.others s.passable

-- codingScheme, which is collapsed in every row that has it, by its code list
unfoldable pub scheme_fits : ℕ → TagSaid → Bool
scheme_fits w s = cond (eqb (scheme_of w) no_scheme) true (listed (codes_of (scheme_of w - by_list)) (dropped (says (bytes s.scheme))))

-- `v` by its form or code list, and beside the period: "TimeInterval equals TimePeriodCovered". Pos is held against the one before it, below
unfoldable pub value_fits : ℕ → Period → ℕ → TagSaid → Bool
value_fits kind p w s =
    cond (has_form pos_form w) true
    (eqb (judge (form_of w) (record { kind = kind; from = p.start; to = p.end; quarters = quarters_of p; last = 0 }) (sayings w s)).number 0)

-- an attribute of the root that is there has its "fixed value", of which nothing is dropped
unfoldable pub fixed_fits : ℕ → ℕ → AttributeValue → Bool
fixed_fits kind attribute Absent = true
fixed_fits kind attribute (Given b) = same (fixed_for kind attribute) (says b)

unfoldable pub root_fits : ℕ → DtdSaid → Bool
root_fits kind d = fixed_fits kind dtd_version d.version && fixed_fits kind dtd_release d.release && fixed_fits kind dtd_message d.message

-- the root has its fixed values; elsewhere an element with a `v` has it by its form, and its codingScheme
unfoldable pub element_fits : ℕ → Period → ℕ → TagSaid → Bool
element_fits kind p w s =
    attributes_agree kind w s &&
    cond (has_role root_role w) (root_fits kind s.dtd) (cond (eqb (form_of w) no_form) true (scheme_fits w s && value_fits kind p w s))

-- each element of a content passes a test of its row and of what it says
unfoldable pub Each : {A : Type 0} → (ℕ → A → Bool) → List ℕ → Trees A → Type 0
Each test rows none = Unit {0}
Each test rows (element r tag inner after) = (test (get_or rows r 0) tag ≡ true) × Each test rows inner × Each test rows after

-- ---- the rules of a series

-- "Pos is at most N. Kind 1: 1, 2, 3 and so on. .. Kind 2 (curve A03): the first Pos is 1, later ones rise"; kind 3 as kind 1: each after the one before it
unfoldable pub in_turn : ℕ → ℕ → ℕ → List ℕ → Bool
in_turn kind quarters last [] = true
in_turn kind quarters last (p ∷ ps) = position_fits kind quarters last p && in_turn kind quarters p ps

-- how many Intervals a Period has: not too few, not too many, and "at the end tag of Period there are N intervals" where the kind has one for each quarter hour
unfoldable pub count_fits : ℕ → ℕ → ℕ → Bool
count_fits kind quarters n = has_enough kind n && within_most kind n && cond (kind_at kind).full (eqb n quarters) true

-- what stands in a series
pub record SeriesFits (kind quarters : ℕ) (rows : List ℕ) (c : Trees TagSaid) : Type 0 where
  pub positions : in_turn kind quarters 0 (map position_of (those (has_role pos_role) rows c)) ≡ true
  pub intervals : count_fits kind quarters (length (those (has_role interval_role) rows c)) ≡ true
  -- "The five Original elements are all there or all absent"
  pub originals : (length (those (has_role original_role) rows c) ≡ 0) ⊎ (length (those (has_role original_role) rows c) ≡ 5)

unfoldable pub All : {A : Type 0} → (A → Type 0) → List A → Type 0
All P [] = Unit {0}
All P (x ∷ xs) = P x × All P xs

-- ---- the rules between the series of a constraint (kind 3)

-- which code an element of a series is, of which there is one; it is collapsed
unfoldable pub code_in : (List ℕ → ℕ) → List TagSaid → ℕ
code_in number [] = 0
code_in number (s ∷ ss) = number (dropped (says (bytes s.v)))

unfoldable pub business_in : List ℕ → Trees TagSaid → ℕ
business_in rows s = code_in type_no (those (has_role business_role) rows s)

unfoldable pub direction_in : List ℕ → Trees TagSaid → ℕ
direction_in rows s = code_in direction_no (those (has_role direction_role) rows s)

-- the Directions of the series of BusinessType A77
unfoldable pub change_directions : List ℕ → List (Trees TagSaid) → List ℕ
change_directions rows [] = []
change_directions rows (s ∷ ss) =
    cond (eqb (business_in rows s) change_type) (direction_in rows s ∷ change_directions rows ss) (change_directions rows ss)

-- "one or two of BusinessType A77, two only with different Direction"
unfoldable pub one_or_two : List ℕ → Bool
one_or_two [] = false
one_or_two (d ∷ []) = true
one_or_two (d ∷ e ∷ []) = not (eqb e d)
one_or_two (d ∷ e ∷ f ∷ ds) = false

-- "at least one B59"
unfoldable pub some_bearing : List ℕ → List (Trees TagSaid) → Bool
some_bearing rows [] = false
some_bearing rows (s ∷ ss) = cond (eqb (business_in rows s) bearing_type) true (some_bearing rows ss)

-- a DocStatus is there
unfoldable pub is_withdrawn : List ℕ → Trees TagSaid → Bool
is_withdrawn rows c = ltb 0 (length (those (has_form (in_list + doc_status_list)) rows c))

-- "Without DocStatus, a document with series has one or two of BusinessType A77, .., and at least one B59. With DocStatus (A13) there is at most one series
-- and the last rule isn't applied."
unfoldable pub series_agree : List ℕ → Bool → List (Trees TagSaid) → Bool
series_agree rows withdrawn ss =
    cond withdrawn (leb (length ss) 1) (cond (eqb (length ss) 0) true (one_or_two (change_directions rows ss) && some_bearing rows ss))

-- ---- the whole

-- one of them is the same
unfoldable pub is_among : List ℕ → List (List ℕ) → Bool
is_among id [] = false
is_among id (x ∷ xs) = cond (same id x) true (is_among id xs)

-- no two are the same
unfoldable pub Apart : List (List ℕ) → Type 0
Apart [] = Unit {0}
Apart (x ∷ xs) = (is_among x xs ≡ false) × Apart xs

-- by what they say. K4: "two identifications are equal when their meanings are"
unfoldable pub identifications : List ℕ → Trees TagSaid → List (List ℕ)
identifications rows c = map (λ (s : TagSaid). says (bytes s.v)) (those (has_role series_id_role) rows c)

-- A content that meets every rule of its kind.
pub record Legal (kind : ℕ) (c : Trees TagSaid) : Type 0 where
  pub known : is_kind kind ≡ true
  -- "element order, how often each may come"
  pub conforms : Conforms (rows_of kind) 0 c
  pub elements : Each (element_fits kind (period_of (rows_of kind) c)) (rows_of kind) c
  pub series : All (SeriesFits kind (quarters_of (period_of (rows_of kind) c)) (rows_of kind)) (in_each (has_role series_role) (rows_of kind) c)
  -- and beside each other, where the kind's are those of one constraint
  pub constraint : cond (kind_at kind).constrained (series_agree (rows_of kind) (is_withdrawn (rows_of kind) c) (in_each (has_role series_role) (rows_of kind) c)) true ≡ true
  -- "TimeSeriesIdentification used before in this document" is refused
  pub apart : Apart (identifications (rows_of kind) c)

-- "Room becomes the table length divided by 12.", "room is the shorter length": the rows of a content have room
pub record HasRoom (room : Room) (kind : ℕ) (c : Trees TagSaid) : Type 0 where
  pub series : length (those (has_role series_role) (rows_of kind) c) ≤ room.series
  pub intervals : length (those (has_role interval_role) (rows_of kind) c) ≤ room.intervals
