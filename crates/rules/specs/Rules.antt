-- What a value has to be, by its form in the guideline, and the refusal where it is not. Every rule takes what the value
-- says and the values before it, and no document.
use Rattle.std.specs.Prelude.{ℕ, ◌+◌, ◌-◌, List, Bool, true, false, cond, leb, ltb, eqb, is_some, Option, Some, None}
use Rattle.refusals.specs.Refusals.{no_refusal, against_form, outside_list, against_value}
use Rattle.slices.specs.Same.{same}
use Rattle.slices.specs.Text.{text}
use Rattle.columns.specs.Columns.{
  identification_form,
  series_id_form,
  partner_form,
  version_form,
  date_time_form,
  period_form,
  interval_form,
  resolution_form,
  pos_form,
  amount_form,
  object_form,
  party_form,
  grid_element_form,
  in_list,
  business_type_three_list,
  direction_list,
}
use Rattle.guideline.specs.Kinds.{kind_at}
use Rattle.codes.specs.Lists.{listed, codes_of}
use Rattle.forms.specs.Forms.{identification, grid_element, market_partner, resource_object, party, quarter_hour}
use Rattle.numbers.specs.Number.{number_of}
use Rattle.numbers.specs.Amount.{amount_of}
use Rattle.times.specs.Times.{date_time, interval}
use Rattle.times.specs.Periods.{day_period, cost_period}
use Rattle.rules.specs.declared.Held.{Held}
use Rattle.rules.specs.Judged.{Judged}

unfoldable pub unless : ℕ → Bool → ℕ
unless number fits = cond fits no_refusal number

-- "Version: 1 to 999, no leading zero."
unfoldable pub is_version : List ℕ → Bool
is_version cs = is_some (number_of cs 3)

unfoldable pub amount : List ℕ → Bool
amount cs = is_some (amount_of cs)

-- "6: value against its form or fixed value; 7: value outside its code list": "A value with a code list is judged by that list alone"
unfoldable pub form_refusal : ℕ → List ℕ → ℕ
form_refusal form cs =
    cond (eqb form identification_form) (unless against_form (identification cs))
    (cond (eqb form series_id_form) (unless against_form (identification cs))
    (cond (eqb form partner_form) (unless against_form (market_partner cs))
    (cond (eqb form version_form) (unless against_form (is_version cs))
    (cond (eqb form date_time_form) (unless against_form (date_time cs))
    (cond (eqb form amount_form) (unless against_form (amount cs))
    (cond (eqb form object_form) (unless against_form (resource_object cs))
    (cond (eqb form party_form) (unless against_form (party cs))
    (cond (eqb form grid_element_form) (unless against_form (grid_element cs))
    (cond (leb in_list form) (unless outside_list (listed (codes_of (form - in_list)) cs)) no_refusal)))))))))

-- ---- which code a value is, where later values are held against it; 0 for any other value

-- of kind 3's BusinessType: A77, by which the output may be changed, and B59, by which a resource bears on the network element
abbrev pub change_type : ℕ
change_type = 1

abbrev pub bearing_type : ℕ
bearing_type = 2

unfoldable pub type_no : List ℕ → ℕ
type_no cs = cond (same (text "A77") cs) change_type (cond (same (text "B59") cs) bearing_type 0)

-- of Direction: A01, up, and A02, down
abbrev pub upward : ℕ
upward = 1

abbrev pub downward : ℕ
downward = 2

unfoldable pub direction_no : List ℕ → ℕ
direction_no cs = cond (same (text "A01") cs) upward (cond (same (text "A02") cs) downward 0)

unfoldable pub code_no : ℕ → List ℕ → ℕ
code_no form cs = cond (eqb form (in_list + business_type_three_list)) (type_no cs) (cond (eqb form (in_list + direction_list)) (direction_no cs) 0)

-- ---- a value beside those before it

-- the number alone, 0 for a value that is taken
abbrev pub refused : ℕ → Judged
refused number = record { number = number; first = 0; second = 0 }

-- TimePeriodCovered: a delivery day, or whole quarter hours
unfoldable pub period_fits : ℕ → ℕ → ℕ → Bool
period_fits kind from to = cond (kind_at kind).daily (day_period from to) (cost_period from to)

unfoldable pub judge_period_by : ℕ → Option (ℕ × ℕ) → Judged
judge_period_by kind (Some (from, to)) =
    cond (period_fits kind from to) (record { number = no_refusal; first = from; second = to }) (refused against_value)
judge_period_by kind None = refused against_form

unfoldable pub judge_period : ℕ → List ℕ → Judged
judge_period kind cs = judge_period_by kind (interval cs)

-- "TimeInterval equals TimePeriodCovered."
unfoldable pub judge_interval_by : ℕ → ℕ → Option (ℕ × ℕ) → Judged
judge_interval_by from to (Some (a, b)) =
    cond (eqb a from) (cond (eqb b to) (refused no_refusal) (refused against_value))
    (refused against_value)
judge_interval_by from to None = refused against_form

unfoldable pub judge_interval : ℕ → ℕ → List ℕ → Judged
judge_interval from to cs = judge_interval_by from to (interval cs)

-- "Pos is at most N. Kind 1: 1, 2, 3 and so on. .. Kind 2 (curve A03): the first Pos is 1, later ones rise"; kind 3 as kind 1
unfoldable pub position_fits : ℕ → ℕ → ℕ → ℕ → Bool
position_fits kind quarters last p =
    cond (ltb quarters p) false
    (cond (kind_at kind).counted (eqb p (last + 1))
    (cond (eqb last 0) (eqb p 1) (ltb last p)))

unfoldable pub judge_position_by : ℕ → ℕ → ℕ → Option ℕ → Judged
judge_position_by kind quarters last (Some p) =
    cond (position_fits kind quarters last p) (record { number = no_refusal; first = p; second = 0 }) (refused against_value)
judge_position_by kind quarters last None = refused against_form

unfoldable pub judge_position : ℕ → ℕ → ℕ → List ℕ → Judged
judge_position kind quarters last cs = judge_position_by kind quarters last (number_of cs 5)

-- a value by its form: TimePeriodCovered, TimeInterval, Resolution ("any other is refusal 8"), Pos, and those with a form alone, of which it is told which code they are
unfoldable pub judge : ℕ → Held → List ℕ → Judged
judge form h cs =
    cond (eqb form period_form) (judge_period h.kind cs)
    (cond (eqb form interval_form) (judge_interval h.from h.to cs)
    (cond (eqb form resolution_form) (refused (unless against_value (quarter_hour cs)))
    (cond (eqb form pos_form) (judge_position h.kind h.quarters h.last cs)
    (record { number = form_refusal form cs; first = code_no form cs; second = 0 }))))
