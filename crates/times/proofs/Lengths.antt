-- From a period's two dates to its length: the number of days between two dates is the difference of their numbers, and N is 96 for each of them and the quarter
-- hours within the days. Assumes nothing.
use Prim.Native.Nat.{ℕ, zero, suc, ◌+◌, ◌-◌, ◌*◌, ◌/◌, ◌%◌, ◌≤◌, ◌<◌}
use mathlib.Core.Path.{◌≡◌, refl, ap, ◌∙◌, sym}
use mathlib.Core.Bool.{true}
use native.Mathlib.Omega.{arith}
use Rattle.times.specs.Calendar.{leap, days_before, leap_day, day_number}
use Rattle.times.specs.After.{Date, day_after, is_real, date_number, later}
use Rattle.times.specs.Periods.{quarter_hours}
use Rattle.times.proofs.Consecutive.{consecutive, after-real}

last-day : day_number 2099 12 31 ≡ 36524
unfolding leap days_before leap_day day_number
last-day = refl

-- a real date before the last one has a real date after it
goes_on : (x : Date) → is_real x ≡ true → date_number x < 36524 → is_real (day_after x) ≡ true
goes_on x r h = after-real x r (λ y m d. let e : date_number x ≡ 36524 = rw (y, m, d) last-day in omega arith)

-- The date k days later has the number that is higher by k, as long as the century lasts.
pub days-later : (k : ℕ) (x : Date) → is_real x ≡ true → date_number x + k ≤ 36524 → date_number (later k x) ≡ date_number x + k
unfolding later
days-later zero x r h = omega arith
days-later (suc k) x r h =
    let n = consecutive x r in
    days-later k (day_after x) (goes_on x r (omega arith)) (omega arith) ∙ omega arith

-- So the number of days from one date to another is the difference.
pub days-between : (k : ℕ) (x y : Date) → is_real x ≡ true → date_number x + k ≤ 36524 → later k x ≡ y → date_number y - date_number x ≡ k
days-between k x y r h e = let n = ap date_number (sym e) ∙ days-later k x r h in omega arith

-- N: the days times 96, and the quarter hours within the days: those of the last day up to the end, less those of the first up to the start. Both ends are m and n
-- minutes after the start of their days, and as far from a quarter hour.
pub quarters-by-days : (d e m n : ℕ) → d ≤ e → d * 1440 + m ≤ e * 1440 + n → m % 15 ≡ n % 15
    → quarter_hours (d * 1440 + m) (e * 1440 + n) + m / 15 ≡ (e - d) * 96 + n / 15
unfolding quarter_hours
quarters-by-days d e m n l h q = omega arith
