-- What differs by kind, but for the rows: told here, kind by kind, and asked for by name everywhere else. Which element is the series, the object or Pos of a
-- kind is told by the roles of its rows.
use Rattle.std.specs.Prelude.{ℕ, suc, List, [], Bool, true, false, cond, eqb, leb}
use Rattle.slices.specs.Text.{text}
use Rattle.elements.specs.Names.{element_no}
use Rattle.guideline.specs.declared.Demand.{Demand}
use Rattle.guideline.specs.declared.Demand.TheVariants.{NotKnown, Asked, Optional}
use Rattle.guideline.specs.declared.Demands.{Demands}
use Rattle.guideline.specs.declared.Kind.{Kind}

-- no bound to the number of Intervals
abbrev pub unbounded : ℕ
unbounded = 0

-- ---- the attributes that a root may have: DtdVersion, DtdRelease, DtdBDEWNachrichtenVersion

abbrev pub dtd_version : ℕ
dtd_version = 0

abbrev pub dtd_release : ℕ
dtd_release = 1

abbrev pub dtd_message : ℕ
dtd_message = 2

-- none of the three is known
unfoldable pub no_demands : Demands
no_demands = record { version = NotKnown; release = NotKnown; message = NotKnown }

-- DtdBDEWNachrichtenVersion has to come, and the others are not known
unfoldable pub message_alone : Demands
message_alone = record { version = NotKnown; release = NotKnown; message = Asked }

-- DtdVersion and DtdRelease have to come, and DtdBDEWNachrichtenVersion may
unfoldable pub version_and_release : Demands
version_and_release = record { version = Asked; release = Asked; message = Optional }

-- ---- the kinds

-- 0, before the root, and any other number that is no kind: no element has the name of its root, and it has no rows
unfoldable pub no_kind : Kind
no_kind = record { root = 0; dtd = no_demands; first = 0; count = 0; daily = false; least = 0; most = unbounded; full = false; counted = false; constrained = false }

-- "Beschaffungsanforderung 1.0, kind 1": TimePeriodCovered is a delivery day; Interval is 92..100, and there are N of them; Pos is "1, 2, 3 and so on"
unfoldable pub kind_one : Kind
kind_one =
    record {
      root = element_no (text "Beschaffungsanforderung");
      dtd = message_alone;
      first = 0;
      count = 32;
      daily = true;
      least = 92;
      most = 100;
      full = true;
      counted = true;
      constrained = false;
    }

-- "Kostenblatt 1.0, kind 2": TimePeriodCovered has whole quarter hours; Interval is 1..n; "the first Pos is 1, later ones rise"
unfoldable pub kind_two : Kind
kind_two =
    record {
      root = element_no (text "Kostenblatt");
      dtd = message_alone;
      first = 32;
      count = 34;
      daily = false;
      least = 1;
      most = unbounded;
      full = false;
      counted = false;
      constrained = false;
    }

-- K2: "NetworkConstraintDocument 1.1a, .. kind 3": TimePeriodCovered as in kind 2; "intervals are 1 to 100 with Pos counted up by one from 1"; its series are
-- those of one constraint
unfoldable pub kind_three : Kind
kind_three =
    record {
      root = element_no (text "NetworkConstraintDocument");
      dtd = version_and_release;
      first = 66;
      count = 34;
      daily = false;
      least = 1;
      most = 100;
      full = false;
      counted = true;
      constrained = true;
    }

unfoldable pub kind_at : ℕ → Kind
kind_at k = cond (eqb k 1) kind_one (cond (eqb k 2) kind_two (cond (eqb k 3) kind_three no_kind))

-- the "fixed value" of an attribute of the root; no text for an attribute that the kind does not know
unfoldable pub fixed_one : ℕ → List ℕ
fixed_one attribute = cond (eqb attribute dtd_message) (text "1.0") []

unfoldable pub fixed_two : ℕ → List ℕ
fixed_two attribute = cond (eqb attribute dtd_message) (text "1.0") []

unfoldable pub fixed_three : ℕ → List ℕ
fixed_three attribute =
    cond (eqb attribute dtd_version) (text "4") (cond (eqb attribute dtd_release) (text "1") (cond (eqb attribute dtd_message) (text "1.1a") []))

unfoldable pub fixed_for : ℕ → ℕ → List ℕ
fixed_for kind attribute =
    cond (eqb kind 1) (fixed_one attribute) (cond (eqb kind 2) (fixed_two attribute) (cond (eqb kind 3) (fixed_three attribute) []))

unfoldable pub is_kind : ℕ → Bool
is_kind k = cond (eqb k 1) true (cond (eqb k 2) true (eqb k 3))

-- the kind that the number of a root's name tells; 0 for any other name
unfoldable pub kind_of : ℕ → ℕ
kind_of e = cond (eqb e kind_one.root) 1 (cond (eqb e kind_two.root) 2 (cond (eqb e kind_three.root) 3 0))

-- the element that is a series of the kind; 255, which no element has, for a number that is no kind
unfoldable pub series_element : ℕ → ℕ
series_element k =
    cond (eqb k 1) (element_no (text "ScheduleTimeSeries"))
    (cond (eqb k 2) (element_no (text "CostTimeSeries")) (cond (eqb k 3) (element_no (text "NetworkConstraintTimeSeries")) 255))

-- whether n Intervals are not too many for a Period of the kind, and whether another may come after n of them
unfoldable pub within_most : ℕ → ℕ → Bool
within_most kind n = cond (eqb (kind_at kind).most unbounded) true (leb n (kind_at kind).most)

unfoldable pub takes_another : ℕ → ℕ → Bool
takes_another kind n = within_most kind (suc n)

-- and whether n of them are enough
unfoldable pub has_enough : ℕ → ℕ → Bool
has_enough kind n = leb (kind_at kind).least n
