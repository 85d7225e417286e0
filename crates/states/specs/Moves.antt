-- "Reading moves through a small state, one item at a time, and each item moves that state as the structure tables say."
use Rattle.std.specs.Prelude.{ℕ, ◌+◌, ◌-◌, List, Bool, true, false, cond, not, get_or, leb, ltb, eqb, Option, Some, None}
use Rattle.refusals.specs.Refusals.{no_refusal, unreadable_item, not_due, table_full, wrong_attribute, against_value}
use Rattle.slices.specs.Part.{part_of}
use Rattle.elements.specs.Names.{element_no}
use Rattle.columns.specs.Columns.{form_of, role_of, period_form, root_role, series_role, period_role, interval_role, original_role, object_role, business_role, series_id_role, pos_role, qty_role, direction_role, area_role}
use Rattle.guideline.specs.Kinds.{kind_at, kind_of, takes_another, has_enough}
use Rattle.guideline.specs.Rows.{rows_of, rows_in}
use Rattle.items.specs.declared.Tag.{Tag}
use Rattle.items.specs.declared.Item.{Item}
use Rattle.items.specs.declared.Item.TheVariants.{Start, Empty, End, Text, Comment, Unreadable}
use Rattle.rules.specs.Rules.{refused}
use Rattle.rules.specs.declared.Held.{Held}
use Rattle.rules.specs.Judged.{Judged}
use Rattle.structure.specs.Rows.{start_of, end_of, ends_at_once}
use Rattle.times.specs.Periods.{quarter_hours}
use Rattle.states.specs.Attributes.{attributes_fit, judge_tag}
use Rattle.states.specs.Constraints.{none_seen, noticed, against, lacking}
use Rattle.states.specs.declared.State.{State}
use Rattle.states.specs.declared.Seen.{Seen}
use Rattle.states.specs.declared.Room.{Room}
use Rattle.states.specs.declared.Entry.{Entry}
use Rattle.states.specs.declared.Entry.TheVariants.{Nothing, Series, Identification, Object, BusinessType, Direction, Area, Interval, Position, Amount}
use Rattle.states.specs.Step.{Step, Next, Refused}

-- one more, as far as a u32 counts
unfoldable pub one_more : ℕ → ℕ
one_more n = cond (ltb n 4294967295) (n + 1) n

-- before the first item: the document as a whole is open
unfoldable pub begun : State
begun =
    record { kind = 0; row = 0; inside = true; series = 0; intervals = 0; first = 0; from = 0; to = 0; quarters = 0; last = 0; originals = 0; seen = none_seen }

unfoldable pub held_of : State → ℕ → Held
held_of x kind = record { kind = kind; from = x.from; to = x.to; quarters = x.quarters; last = x.last }

-- ---- a start tag, or the start in an empty one, whose row is due

-- 3: an empty tag of an element that needs children
unfoldable pub cut_short : Bool → List ℕ → ℕ → Bool
cut_short empty rows r = cond empty (cond (ends_at_once rows r) false true) false

-- 3: an Interval too many for its Period
unfoldable pub too_many : State → ℕ → ℕ → Bool
too_many x role kind = cond (eqb role interval_role) (cond (takes_another kind (x.intervals - x.first)) false true) false

-- "4: a due series or Interval start finds its table full"
unfoldable pub no_room : State → ℕ → Room → Bool
no_room x role room =
    cond (eqb role series_role) (leb room.series x.series) (cond (eqb role interval_role) (leb room.intervals x.intervals) false)

-- "The five Original elements are all there or all absent, seen at the Period start."
unfoldable pub half_originals : State → ℕ → Bool
half_originals x role = cond (eqb role period_role) (cond (eqb x.originals 0) false (cond (eqb x.originals 5) false true)) false

-- the rules between the series of a constraint
unfoldable pub against_others : State → ℕ → ℕ → ℕ → Bool
against_others x kind role code = cond (kind_at kind).constrained (against x.seen x.series role code) false

unfoldable pub beside_others : State → ℕ → ℕ → Judged → Judged
beside_others x kind role j = cond (eqb j.number no_refusal) (cond (against_others x kind role j.first) (refused against_value) j) j

unfoldable pub values_judged : State → ℕ → ℕ → Tag → List ℕ → Judged
values_judged x kind w t s = cond (half_originals x (role_of w)) (refused against_value) (beside_others x kind (role_of w) (judge_tag w t (held_of x kind) s))

-- the smallest refusal, w being the row
unfoldable pub judged_at : State → ℕ → List ℕ → ℕ → ℕ → Tag → List ℕ → Bool → Room → Judged
judged_at x kind rows r w t s empty room =
    cond (cut_short empty rows r) (refused not_due)
    (cond (too_many x (role_of w) kind) (refused not_due)
    (cond (no_room x (role_of w) room) (refused table_full)
    (cond (attributes_fit kind w t) (values_judged x kind w t s) (refused wrong_attribute))))

unfoldable pub start_judged : State → ℕ → List ℕ → ℕ → Tag → List ℕ → Bool → Room → Judged
start_judged x kind rows r t s empty room = judged_at x kind rows r (get_or rows r 0) t s empty room

-- where the structure stands after it, and what is kept for the rules between series
unfoldable pub at_row : State → ℕ → ℕ → Bool → Seen → State
at_row x kind r within seen =
    record {
      kind = kind;
      row = r;
      inside = within;
      series = x.series;
      intervals = x.intervals;
      first = x.first;
      from = x.from;
      to = x.to;
      quarters = x.quarters;
      last = x.last;
      originals = x.originals;
      seen = seen;
    }

unfoldable pub one_series : State → State
one_series x =
    record {
      kind = x.kind;
      row = x.row;
      inside = x.inside;
      series = one_more x.series;
      intervals = x.intervals;
      first = x.intervals;
      from = x.from;
      to = x.to;
      quarters = x.quarters;
      last = x.last;
      originals = 0;
      seen = x.seen;
    }

unfoldable pub one_interval : State → State
one_interval x =
    record {
      kind = x.kind;
      row = x.row;
      inside = x.inside;
      series = x.series;
      intervals = one_more x.intervals;
      first = x.first;
      from = x.from;
      to = x.to;
      quarters = x.quarters;
      last = x.last;
      originals = x.originals;
      seen = x.seen;
    }

unfoldable pub one_original : State → State
one_original x =
    record {
      kind = x.kind;
      row = x.row;
      inside = x.inside;
      series = x.series;
      intervals = x.intervals;
      first = x.first;
      from = x.from;
      to = x.to;
      quarters = x.quarters;
      last = x.last;
      originals = one_more x.originals;
      seen = x.seen;
    }

unfoldable pub last_pos : State → ℕ → State
last_pos x p =
    record {
      kind = x.kind;
      row = x.row;
      inside = x.inside;
      series = x.series;
      intervals = x.intervals;
      first = x.first;
      from = x.from;
      to = x.to;
      quarters = x.quarters;
      last = p;
      originals = x.originals;
      seen = x.seen;
    }

unfoldable pub covering : State → ℕ → ℕ → State
covering x from to =
    record {
      kind = x.kind;
      row = x.row;
      inside = x.inside;
      series = x.series;
      intervals = x.intervals;
      first = x.first;
      from = from;
      to = to;
      quarters = quarter_hours from to;
      last = x.last;
      originals = x.originals;
      seen = x.seen;
    }

-- and what later items are held against: a series, a Period, an Interval, an Original, a Pos, TimePeriodCovered
unfoldable pub kept : State → ℕ → Judged → State
kept x w j =
    cond (eqb (role_of w) series_role) (one_series x)
    (cond (eqb (role_of w) period_role) (last_pos x 0)
    (cond (eqb (role_of w) interval_role) (one_interval x)
    (cond (eqb (role_of w) original_role) (one_original x)
    (cond (eqb (role_of w) pos_role) (last_pos x j.first)
    (cond (eqb (form_of w) period_form) (covering x j.first j.second) x)))))

unfoldable pub entered : State → ℕ → ℕ → ℕ → Judged → Bool → State
entered x kind r w j within = kept (at_row x kind r within (noticed x.seen w j.first)) w j

-- what it brings into the tables
unfoldable pub entry_of : ℕ → ℕ → Entry
entry_of role p =
    cond (eqb role series_role) Series
    (cond (eqb role interval_role) Interval
    (cond (eqb role object_role) Object
    (cond (eqb role business_role) BusinessType
    (cond (eqb role series_id_role) Identification
    (cond (eqb role pos_role) (Position p)
    (cond (eqb role qty_role) Amount
    (cond (eqb role direction_role) Direction
    (cond (eqb role area_role) Area Nothing))))))))

unfoldable pub started_by : State → ℕ → ℕ → ℕ → Bool → Judged → Step
started_by x kind r w empty j =
    cond (eqb j.number no_refusal) (Next (entered x kind r w j (not empty)) (entry_of (role_of w) j.first)) (Refused j.number)

unfoldable pub started_at : State → ℕ → List ℕ → Tag → List ℕ → Bool → Room → Option ℕ → Step
started_at x kind rows t s empty room (Some r) = started_by x kind r (get_or rows r 0) empty (start_judged x kind rows r t s empty room)
started_at x kind rows t s empty room None = Refused not_due

unfoldable pub started : State → ℕ → List ℕ → ℕ → Tag → List ℕ → Bool → Room → Step
started x kind rows name t s empty room = started_at x kind rows t s empty room (start_of rows x.row x.inside name)

-- ---- an end tag

unfoldable pub closed_at : State → ℕ → State
closed_at x r =
    record {
      kind = x.kind;
      row = r;
      inside = false;
      series = x.series;
      intervals = x.intervals;
      first = x.first;
      from = x.from;
      to = x.to;
      quarters = x.quarters;
      last = x.last;
      originals = x.originals;
      seen = x.seen;
    }

-- "at the end tag of Period there are N intervals": 3 for too few, 8 for another number than N
unfoldable pub count_refusal : ℕ → ℕ → ℕ → ℕ
count_refusal kind quarters n = cond (has_enough kind n) (cond (kind_at kind).full (cond (eqb n quarters) no_refusal against_value) no_refusal) not_due

-- at the root's end a series that a constraint has to have
unfoldable pub lack_refusal : State → ℕ
lack_refusal x = cond (kind_at x.kind).constrained (cond (lacking x.seen x.series) against_value no_refusal) no_refusal

unfoldable pub end_refusal : State → List ℕ → ℕ → ℕ
end_refusal x rows r =
    cond (eqb (role_of (get_or rows r 0)) period_role) (count_refusal x.kind x.quarters (x.intervals - x.first))
    (cond (eqb (role_of (get_or rows r 0)) root_role) (lack_refusal x) no_refusal)

unfoldable pub after_end_at : State → List ℕ → Option ℕ → Step
after_end_at x rows (Some r) = cond (eqb (end_refusal x rows r) no_refusal) (Next (closed_at x r) Nothing) (Refused (end_refusal x rows r))
after_end_at x rows None = Refused not_due

unfoldable pub after_end : State → List ℕ → ℕ → Step
after_end x rows name = after_end_at x rows (end_of rows x.row x.inside name)

-- ---- an item; s is the part of the document that begins with it

unfoldable pub moved : State → ℕ → List ℕ → Item → List ℕ → Room → Step
moved x kind rows (Start t) s room = started x kind rows (element_no (part_of s 1 t.name)) t s false room
moved x kind rows (Empty t) s room = started x kind rows (element_no (part_of s 1 t.name)) t s true room
moved x kind rows (End n e) s room = after_end x rows (element_no (part_of s 2 n))
moved x kind rows (Text white e) s room = cond white (Next x Nothing) (Refused not_due)
moved x kind rows (Comment e) s room = Next x Nothing
moved x kind rows (Unreadable p) s room = Refused unreadable_item

-- the kind, which the root's own tag tells
unfoldable pub root_kind : Item → List ℕ → ℕ
root_kind (Start t) s = kind_of (element_no (part_of s 1 t.name))
root_kind (Empty t) s = kind_of (element_no (part_of s 1 t.name))
root_kind (End n e) s = 0
root_kind (Text white e) s = 0
root_kind (Comment e) s = 0
root_kind (Unreadable p) s = 0

unfoldable pub kind_told : State → Item → List ℕ → ℕ
kind_told x item s = cond (eqb x.kind 0) (root_kind item s) x.kind

-- by the rows of all kinds, as they are lent
unfoldable pub step_by : State → List ℕ → Item → List ℕ → Room → Step
step_by x rows item s room = moved x (kind_told x item s) (rows_in rows (kind_told x item s)) item s room

-- by the guideline's
unfoldable pub step : State → Item → List ℕ → Room → Step
step x item s room = moved x (kind_told x item s) (rows_of (kind_told x item s)) item s room
