-- "years 2000 to 2099, real calendar dates": dates, and days counted from 2000-01-01.
use Rattle.std.specs.Prelude.{ℕ, ◌+◌, ◌-◌, ◌*◌, ◌/◌, ◌%◌, Bool, cond, ◌&&◌, leb, eqb, Option, Some, None}
use Rattle.times.specs.declared.calendar.Terms.{Terms}

-- leap years: of the years 2000 to 2099 exactly those that 4 divides
unfoldable pub leap : ℕ → Bool
leap y = eqb (y % 4) 0

-- the days of a month; months outside 1 to 12 are sorted out by `real_date`
unfoldable pub month_days : ℕ → ℕ → ℕ
month_days y m =
    cond (eqb m 2) (cond (leap y) 29 28)
    (cond (eqb m 4) 30 (cond (eqb m 6) 30 (cond (eqb m 9) 30 (cond (eqb m 11) 30 31))))

-- "years 2000 to 2099, real calendar dates"
unfoldable pub real_date : ℕ → ℕ → ℕ → Bool
real_date y m d = leb 2000 y && (leb y 2099 && (leb 1 m && (leb m 12 && (leb 1 d && leb d (month_days y m)))))

-- the days of a year with no leap day before the first of a month; months outside 1 to 12 are sorted out by `real_date`
unfoldable pub days_before : ℕ → ℕ
days_before m =
    cond (eqb m 1) 0 (cond (eqb m 2) 31 (cond (eqb m 3) 59 (cond (eqb m 4) 90
    (cond (eqb m 5) 120 (cond (eqb m 6) 151 (cond (eqb m 7) 181 (cond (eqb m 8) 212
    (cond (eqb m 9) 243 (cond (eqb m 10) 273 (cond (eqb m 11) 304 334))))))))))

-- the leap day of the year itself, from March on
unfoldable pub leap_day : ℕ → ℕ → ℕ
leap_day y m = cond (leap y) (cond (leb 3 m) 1 0) 0

-- The usual sum, each term by itself: 365 for each year before;
abbrev pub year_days : ℕ → ℕ
year_days y = 365 * (y - 2000)

-- a leap day for each of 2000, 2004 and so on before;
abbrev pub leap_days_before : ℕ → ℕ
leap_days_before y = (y - 2000 + 3) / 4

-- where the month starts, in days of its own year;
abbrev pub month_start : ℕ → ℕ → ℕ
month_start y m = days_before m + leap_day y m

-- and the day of the month. The first day, 2000-01-01, has the number 0
unfoldable pub day_number : ℕ → ℕ → ℕ → ℕ
day_number y m d = year_days y + leap_days_before y + month_start y m + (d - 1)

-- the terms of a real date's number
unfoldable pub sum_of : ℕ → ℕ → ℕ → Option Terms
sum_of y m d =
    cond (real_date y m d)
    (Some (record { years = year_days y; leaps = leap_days_before y; month = month_start y m; days = d - 1 }))
    None

-- the number of a real date
unfoldable pub day_of : ℕ → ℕ → ℕ → Option ℕ
day_of y m d = cond (real_date y m d) (Some (day_number y m d)) None
