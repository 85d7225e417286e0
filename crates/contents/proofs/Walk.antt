-- A walk over a content, from its first tag to its last: what the reading state holds along it, and what each tag has to pass. Between the reader, which
-- keeps a state, and the rules of specs/Legal.antt, which have none. Assumes nothing.
use Prim.Native.Nat.{ℕ, ◌+◌, ◌-◌, ◌<◌}
use mathlib.Core.Path.{◌≡◌}
use mathlib.Core.List.{List}
use mathlib.Core.Logic.{◌⊎◌}
use mathlib.Core.Bool.{true, false, cond}
use lib.ListN.{get_or}
use lib.Dec.{eqb}
use Rattle.times.specs.Periods.{quarter_hours}
use Rattle.times.specs.Times.{interval}
use Rattle.characters.specs.Says.{says}
use Rattle.rules.specs.Rules.{code_no, position_fits}
use Rattle.columns.specs.Columns.{form_of, role_of}
use Rattle.guideline.specs.Kinds.{kind_at, takes_another}
use Rattle.states.specs.Constraints.{none_seen, noticed, against, lacking}
use Rattle.states.specs.Moves.{count_refusal}
use Rattle.states.specs.declared.Room.{Room}
use Rattle.states.specs.declared.Seen.{Seen}
use Rattle.trees.specs.Trees.{Trees, none, element}
use Rattle.contents.specs.Said.{TagSaid, bytes}
use Rattle.contents.specs.Legal.{Period, period_by, position_of, sayings, element_fits}

-- what is counted and kept so far: of the reading state all but its kind, its row and what follows from the period
pub record Tally : Type 0 where
  pub series : ℕ
  pub intervals : ℕ
  pub first : ℕ
  pub period : Period
  pub last : ℕ
  pub originals : ℕ
  pub seen : Seen

unfoldable pub nothing : Tally
nothing = record { series = 0; intervals = 0; first = 0; period = record { start = 0; end = 0 }; last = 0; originals = 0; seen = none_seen }

abbrev pub quarters_in : Tally → ℕ
quarters_in y = quarter_hours y.period.start y.period.end

-- after the start tag of an element of row w
abbrev pub opened : ℕ → TagSaid → Tally → Tally
opened w s y =
    record {
      series = cond (eqb (role_of w) 2) (y.series + 1) y.series;
      intervals = cond (eqb (role_of w) 4) (y.intervals + 1) y.intervals;
      first = cond (eqb (role_of w) 2) y.intervals y.first;
      period = cond (eqb (form_of w) 6) (period_by (interval (says (bytes s.v)))) y.period;
      last = cond (eqb (role_of w) 3) 0 (cond (eqb (role_of w) 9) (position_of s) y.last);
      originals = cond (eqb (role_of w) 2) 0 (cond (eqb (role_of w) 5) (y.originals + 1) y.originals);
      seen = noticed y.seen w (code_no (form_of w) (sayings w s));
    }

unfoldable pub walked : List ℕ → Trees TagSaid → Tally → Tally
walked rows none y = y
walked rows (element q s inner after) y = walked rows after (walked rows inner (opened (get_or rows q 0) s y))

-- what a start tag of row w has to pass
pub record Taken (kind : ℕ) (room : Room) (w : ℕ) (s : TagSaid) (y : Tally) : Type 0 where
  pub fits : element_fits kind y.period w s ≡ true
  pub turn : form_of w ≡ 9 → position_fits kind (quarters_in y) y.last (position_of s) ≡ true
  pub series : role_of w ≡ 2 → y.series < room.series
  pub another : role_of w ≡ 4 → (takes_another kind (y.intervals - y.first) ≡ true) × (y.intervals < room.intervals)
  pub originals : role_of w ≡ 3 → (y.originals ≡ 0) ⊎ (y.originals ≡ 5)

-- and its end tag
abbrev pub Ended : ℕ → ℕ → Tally → Type 0
Ended kind w y = role_of w ≡ 3 → count_refusal kind (quarters_in y) (y.intervals - y.first) ≡ 0

-- ---- the rules between the series of a constraint

-- what a start tag has to pass besides, and the root's end tag
abbrev pub Allowed : ℕ → ℕ → TagSaid → Tally → Type 0
Allowed kind w s y = cond (kind_at kind).constrained (against y.seen y.series (role_of w) (code_no (form_of w) (sayings w s))) false ≡ false

abbrev pub Completed : ℕ → ℕ → Tally → Type 0
Completed kind w y = role_of w ≡ 1 → cond (kind_at kind).constrained (lacking y.seen y.series) false ≡ false

unfoldable pub Heeds : ℕ → List ℕ → Trees TagSaid → Tally → Type 0
Heeds kind rows none y = Unit {0}
Heeds kind rows (element q s inner after) y =
    let w = get_or rows q 0 in
    Allowed kind w s y × Heeds kind rows inner (opened w s y) × Completed kind w (walked rows inner (opened w s y)) ×
    Heeds kind rows after (walked rows inner (opened w s y))

-- ---- the whole

-- a start tag and an end tag by all rules
abbrev pub Takes : ℕ → Room → ℕ → TagSaid → Tally → Type 0
Takes kind room w s y = Taken kind room w s y × Allowed kind w s y

abbrev pub Shuts : ℕ → ℕ → Tally → Type 0
Shuts kind w y = Ended kind w y × Completed kind w y

-- all rules but those between the series of a constraint
unfoldable pub Passes : ℕ → Room → List ℕ → Trees TagSaid → Tally → Type 0
Passes kind room rows none y = Unit {0}
Passes kind room rows (element q s inner after) y =
    let w = get_or rows q 0 in
    Taken kind room w s y × Passes kind room rows inner (opened w s y) × Ended kind w (walked rows inner (opened w s y)) ×
    Passes kind room rows after (walked rows inner (opened w s y))
