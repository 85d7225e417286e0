-- Local midnight in minutes since 2000-01-01T00:00Z: "From now on kind 1 follows German local time by Directive 2000/84/EC, applied to 2000 to 2099".
use Rattle.std.specs.Prelude.{ℕ, ◌+◌, ◌-◌, ◌*◌, ◌/◌, Bool, cond, ◌&&◌, leb, ltb}
use Rattle.times.specs.Sundays.{march_sunday, october_sunday}

-- the year of a day, counted from 2000: four years have 1461 days, the leap year being the first of them
unfoldable pub year_of : ℕ → ℕ
year_of d = 4 * d / 1461

-- "when D is after the March Sunday and not after the October one": those of its year. Of 2100 only the first midnight can be asked for, at the end of
-- 2099-12-31; it is in no table, and in winter
unfoldable pub in_summer : ℕ → Bool
in_summer d = ltb (year_of d) 100 && (ltb (march_sunday (year_of d)) d && leb d (october_sunday (year_of d)))

-- "A delivery day D starts at 22:00Z of the date before .., else at 23:00Z."
unfoldable pub start_of_day : ℕ → ℕ
start_of_day d = (d - 1) * 1440 + cond (in_summer d) (22 * 60) (23 * 60)
