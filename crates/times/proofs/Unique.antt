-- Two outcomes that a contract permits are equal.
-- Assumes nothing.
use Prim.Native.Nat.{ℕ}
use mathlib.Core.Path.{◌≡◌}
use mathlib.Core.List.{List}
use mathlib.Core.Bool.{Bool}
use Rattle.lists.proofs.Unique.{one}
use Rattle.characters.specs.Says.{says}
use Rattle.times.specs.Calendar.{sum_of}
use Rattle.times.specs.Times.{date_time, interval}
use Rattle.times.specs.Periods.{quarter_hours, day_period, cost_period}
use Rattle.std.specs.Prelude.{Option}
use Rattle.times.specs.declared.calendar.Terms.{Terms}

pub is-date-time-one : (v : List ℕ) {r r' : Bool} → r ≡ date_time (says v) → r' ≡ date_time (says v) → r ≡ r'
is-date-time-one v = one

pub interval-of-one : (v : List ℕ) {r r' : Option (ℕ × ℕ)} → r ≡ interval (says v) → r' ≡ interval (says v) → r ≡ r'
interval-of-one v = one

pub quarter-hours-one : (from to : ℕ) {r r' : ℕ} → r ≡ quarter_hours from to → r' ≡ quarter_hours from to → r ≡ r'
quarter-hours-one from to = one

pub is-day-period-one : (from to : ℕ) {r r' : Bool} → r ≡ day_period from to → r' ≡ day_period from to → r ≡ r'
is-day-period-one from to = one

pub is-cost-period-one : (from to : ℕ) {r r' : Bool} → r ≡ cost_period from to → r' ≡ cost_period from to → r ≡ r'
is-cost-period-one from to = one

pub sum-of-one : (y m d : ℕ) {r r' : Option Terms} → r ≡ sum_of y m d → r' ≡ sum_of y m d → r ≡ r'
sum-of-one y m d = one
