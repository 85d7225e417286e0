-- The date after a date. No contract cites it: proofs/Consecutive.antt holds the numbers of days against it.
use Rattle.std.specs.Prelude.{ℕ, zero, suc, ◌+◌, Bool, cond, ltb}
use Rattle.times.specs.Calendar.{month_days, real_date, day_number}

pub record Date : Type 0 where
  pub year : ℕ
  pub month : ℕ
  pub day : ℕ

-- the next day of the month; after its last day the first of the next month; after the last month the first of the next year;
-- of a real date other than 2099-12-31 it is a real date (`after-real`)
unfoldable pub day_after : Date → Date
day_after x =
    cond (ltb x.day (month_days x.year x.month)) (record { year = x.year; month = x.month; day = x.day + 1 })
    (cond (ltb x.month 12) (record { year = x.year; month = x.month + 1; day = 1 })
    (record { year = x.year + 1; month = 1; day = 1 }))

abbrev pub is_real : Date → Bool
is_real x = real_date x.year x.month x.day

abbrev pub date_number : Date → ℕ
date_number x = day_number x.year x.month x.day

-- the date so many days later
unfoldable pub later : ℕ → Date → Date
later zero x = x
later (suc k) x = later k (day_after x)
