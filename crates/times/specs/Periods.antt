-- "Values against each other": periods from one minute to another, both counted from 2000-01-01T00:00Z.
use Rattle.std.specs.Prelude.{ℕ, ◌+◌, ◌-◌, ◌*◌, ◌/◌, ◌%◌, Bool, ◌&&◌, leb, ltb, eqb}
use Rattle.times.specs.Midnight.{start_of_day}

-- "N is TimePeriodCovered's length divided by 15 minutes"; a period that ends before it starts has no length
unfoldable pub quarter_hours : ℕ → ℕ → ℕ
quarter_hours from to = (to - from) / 15

-- the delivery day that starts at a minute: "22:00Z of the date before"
unfoldable pub delivery_day : ℕ → ℕ
delivery_day t = t / 1440 + 1

-- Kind 1: TimePeriodCovered is from the start of a delivery day to the start of the next: "8 where the start or end isn't local midnight"
unfoldable pub day_period : ℕ → ℕ → Bool
day_period from to = eqb from (start_of_day (delivery_day from)) && eqb to (start_of_day (delivery_day from + 1))

-- "Kind 2: its end is after its start, by a multiple of 15 minutes and at most 366 days."
unfoldable pub cost_period : ℕ → ℕ → Bool
cost_period from to = ltb from to && (eqb ((to - from) % 15) 0 && leb (to - from) (366 * 1440))
