-- "Times: years 2000 to 2099, real calendar dates, seconds only in date-times, in UTC with `Z`. An interval is two minute-times joined by `/`."
use Rattle.std.specs.Prelude.{ℕ, ◌+◌, ◌*◌, List, Bool, true, false, cond, ◌&&◌, leb, is_some, Option, Some, None}
use Rattle.slices.specs.Text.{text}
use Rattle.pictures.specs.Picture.{fits_of}
use Rattle.pictures.specs.Number.{number_at}
use Rattle.times.specs.Calendar.{day_of}

-- the minute at hour h and minute m of a day, counted from 2000-01-01T00:00Z: hours 0 to 23, minutes 0 to 59
unfoldable pub minute_on : Option ℕ → ℕ → ℕ → Option ℕ
minute_on (Some d) h m = cond (leb h 23 && leb m 59) (Some (d * 1440 + h * 60 + m)) None
minute_on None h m = None

-- the minute that the characters from the place `from` on show: year at 0, month at 5, day at 8, hour at 11, minute at 14
unfoldable pub minute_at : ℕ → List ℕ → Option ℕ
minute_at from cs =
    minute_on
    (day_of (number_at from 4 cs) (number_at (from + 5) 2 cs) (number_at (from + 8) 2 cs))
    (number_at (from + 11) 2 cs)
    (number_at (from + 14) 2 cs)

-- a date-time, with seconds 0 to 59
unfoldable pub date_time : List ℕ → Bool
date_time cs = fits_of (text "9999-99-99T99:99:99Z") cs && (is_some (minute_at 0 cs) && leb (number_at 17 2 cs) 59)

-- both minutes are there
unfoldable pub between : Option ℕ → Option ℕ → Option (ℕ × ℕ)
between (Some a) (Some b) = Some (a, b)
between (Some a) None = None
between None b = None

-- "An interval is two minute-times joined by `/`."
unfoldable pub interval : List ℕ → Option (ℕ × ℕ)
interval cs = cond (fits_of (text "9999-99-99T99:99Z/9999-99-99T99:99Z") cs) (between (minute_at 0 cs) (minute_at 18 cs)) None
