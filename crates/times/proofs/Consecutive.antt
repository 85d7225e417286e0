-- Days are counted right: 2000-01-01 is 0, and the date after a real date has the next number; where the one is not 2099-12-31, the other is real.
-- Assumes nothing.
use Prim.Native.Nat.{ℕ, ◌+◌, ◌-◌, ◌/◌, ◌%◌, ◌≤◌, ◌<◌}
use mathlib.Core.Path.{◌≡◌, refl, ap, ◌∙◌}
use mathlib.Core.Bool.{Bool, true, false, cond, and-eq-true_iff}
use native.Mathlib.Omega.{arith}
use lib.Dec.{leb, ltb, eqb}
use borrow.Author.Tests.{leb-true, le-leb, ltb-true, ltb-false, eqb-true, eqb-false}
use Rattle.lists.proofs.Cases.{by_cond}
use Rattle.times.specs.Calendar.{leap, month_days, real_date, days_before, leap_day, day_number}
use Rattle.lists.proofs.Below.{every, below}
use Rattle.times.specs.After.{Date, day_after, is_real, date_number}

pub first-day : day_number 2000 1 1 ≡ 0
unfolding leap days_before leap_day day_number
first-day = refl

-- The days up to the end of a month are those up to the start of the next: month m + 1 is the one that ends.
abbrev ends : ℕ → ℕ → Bool
ends y m = eqb (days_before (m + 2) + leap_day y (m + 2)) (days_before (m + 1) + leap_day y (m + 1) + month_days y (m + 1))

common-ends : every (ends 2001) 11 ≡ true
unfolding leap month_days days_before leap_day
common-ends = refl

leap-ends : every (ends 2000) 11 ≡ true
unfolding leap month_days days_before leap_day
leap-ends = refl

-- a test of a year's months that looks at the year only to tell whether it is a leap year passes where it does for a leap year and for a common one
by-leap : (f : ℕ → ℕ → Bool) (n : ℕ) → ((y z m : ℕ) → leap y ≡ leap z → f y m ≡ f z m) → every (f 2000) n ≡ true → every (f 2001) n ≡ true
    → (y m : ℕ) → m < n → f y m ≡ true
unfolding leap
by-leap f n alike a b y m h = go (leap y) refl
  where
    go : (t : Bool) → leap y ≡ t → f y m ≡ true
    go true q = alike y 2000 m q ∙ below (f 2000) n a m h
    go false q = alike y 2001 m q ∙ below (f 2001) n b m h

ends-alike : (y z m : ℕ) → leap y ≡ leap z → ends y m ≡ ends z m
unfolding month_days leap_day
ends-alike y z m e = rw e

month-ends : (y m : ℕ) → m < 11 → days_before (m + 2) + leap_day y (m + 2) ≡ days_before (m + 1) + leap_day y (m + 1) + month_days y (m + 1)
month-ends y m h = eqb-true _ _ (by-leap ends 11 ends-alike leap-ends common-ends y m h)

next-month : (y m : ℕ) → 1 ≤ m → m < 12 → days_before (m + 1) + leap_day y (m + 1) ≡ days_before m + leap_day y m + month_days y m
next-month y m p q =
    let a : m - 1 + 2 ≡ m + 1 = omega arith in
    let b : m - 1 + 1 ≡ m = omega arith in
    rw (a, b) at (month-ends y (m - 1) (omega arith))

-- a leap year has one leap day more before the next year
pub leaps : (y : ℕ) → 2000 ≤ y → (y + 1 - 2000 + 3) / 4 ≡ (y - 2000 + 3) / 4 + leap_day y 12
unfolding leap leap_day
leaps y h = go (eqb (y % 4) 0) refl
  where
    go : (t : Bool) → eqb (y % 4) 0 ≡ t → (y + 1 - 2000 + 3) / 4 ≡ (y - 2000 + 3) / 4 + cond t 1 0
    go true q = let e = eqb-true (y % 4) 0 q in omega (arith, e, h)
    go false q = let e = eqb-false (y % 4) 0 q in omega (arith, e, h)

january : (y : ℕ) → leap_day y 1 ≡ 0
unfolding leap_day
january y = go (leap y)
  where
    go : (t : Bool) → ◌≡◌ {A = ℕ} (cond t 0 0) 0
    go true = refl
    go false = refl

next-year : (y : ℕ) → 2000 ≤ y → day_number (y + 1) 1 1 ≡ day_number y 12 31 + 1
unfolding day_number days_before
next-year y h = let a = leaps y h in let b = january (y + 1) in omega (arith, a, b, h)

next-day : (y m d : ℕ) → 1 ≤ d → day_number y m (d + 1) ≡ day_number y m d + 1
unfolding day_number
next-day y m d h = omega arith

first-of-next : (y m d : ℕ) → 1 ≤ m → m < 12 → 1 ≤ d → d ≡ month_days y m → day_number y (m + 1) 1 ≡ day_number y m d + 1
unfolding day_number
first-of-next y m d p q h e = let n = next-month y m p q in omega (arith, n, e, h)

december : (y : ℕ) → month_days y 12 ≡ 31
unfolding month_days
december y = refl

-- what a real date tells
pub record Real (y m d : ℕ) : Type 0 where
  pub since : 2000 ≤ y
  pub until : y ≤ 2099
  pub month-from : 1 ≤ m
  pub month-to : m ≤ 12
  pub day-from : 1 ≤ d
  pub day-to : d ≤ month_days y m

pub real : (y m d : ℕ) → real_date y m d ≡ true → Real y m d
unfolding real_date
real y m d r =
    let a = (and-eq-true_iff (leb 2000 y) _).0 r in
    let b = (and-eq-true_iff (leb y 2099) _).0 a.1 in
    let c = (and-eq-true_iff (leb 1 m) _).0 b.1 in
    let e = (and-eq-true_iff (leb m 12) _).0 c.1 in
    let f = (and-eq-true_iff (leb 1 d) (leb d (month_days y m))).0 e.1 in
    record {
      since = leb-true _ _ a.0;
      until = leb-true _ _ b.0;
      month-from = leb-true _ _ c.0;
      month-to = leb-true _ _ e.0;
      day-from = leb-true _ _ f.0;
      day-to = leb-true _ _ f.1;
    }

told : {y m d : ℕ} → 2000 ≤ y → y ≤ 2099 → 1 ≤ m → m ≤ 12 → 1 ≤ d → d ≤ month_days y m → real_date y m d ≡ true
unfolding real_date
told a b c e f g = simp (le-leb _ _ a, le-leb _ _ b, le-leb _ _ c, le-leb _ _ e, le-leb _ _ f, le-leb _ _ g)

-- what holds of 28, 29, 30 and 31 holds of the days of every month
by-month : (P : ℕ → Type 0) → P 28 → P 29 → P 30 → P 31 → (y m : ℕ) → P (month_days y m)
unfolding month_days
by-month P a b c d y m = or (eqb m 2) (or (leap y) b a) (or (eqb m 4) c (or (eqb m 6) c (or (eqb m 9) c (or (eqb m 11) c d))))
  where
    or : (t : Bool) {i j : ℕ} → P i → P j → P (cond t i j)
    or = by_cond P

-- each month has a first day
some-day : (y m : ℕ) → 1 ≤ month_days y m
some-day = by-month (λ n. 1 ≤ n) (omega arith) (omega arith) (omega arith) (omega arith)

-- no month has more than 31
pub short-month : (y m : ℕ) → month_days y m ≤ 31
short-month = by-month (λ n. n ≤ 31) (omega arith) (omega arith) (omega arith) (omega arith)

-- The days up to the end of a month are at most those of the year: month m + 1 is the one that ends.
abbrev fits-year : ℕ → ℕ → Bool
fits-year y m = leb (days_before (m + 1) + leap_day y (m + 1) + month_days y (m + 1)) (365 + leap_day y 12)

common-year : every (fits-year 2001) 12 ≡ true
unfolding leap month_days days_before leap_day
common-year = refl

leap-year : every (fits-year 2000) 12 ≡ true
unfolding leap month_days days_before leap_day
leap-year = refl

fits-alike : (y z m : ℕ) → leap y ≡ leap z → fits-year y m ≡ fits-year z m
unfolding month_days leap_day
fits-alike y z m e = rw e

pub within-year : (y m : ℕ) → 1 ≤ m → m ≤ 12 → days_before m + leap_day y m + month_days y m ≤ 365 + leap_day y 12
within-year y m p q =
    let b : m - 1 + 1 ≡ m = omega arith in
    rw b at (leb-true (days_before (m - 1 + 1) + leap_day y (m - 1 + 1) + month_days y (m - 1 + 1)) (365 + leap_day y 12)
    (by-leap fits-year 12 fits-alike leap-year common-year y (m - 1) (omega arith)))

-- the date after a real one is the next of its month, the first of the next month or the first of the next year
by-date : (P : Date → Type 0) (x : Date) → is_real x ≡ true
    → (Real x.year x.month x.day → x.day < month_days x.year x.month → P (record { year = x.year; month = x.month; day = x.day + 1 }))
    → (Real x.year x.month x.day → x.day ≡ month_days x.year x.month → x.month < 12 → P (record { year = x.year; month = x.month + 1; day = 1 }))
    → (Real x.year x.month x.day → x.month ≡ 12 → x.day ≡ 31 → P (record { year = x.year + 1; month = 1; day = 1 })) → P (day_after x)
unfolding day_after
by-date P x r same-month next first = go (ltb x.day (month_days x.year x.month)) (ltb x.month 12) refl refl (real x.year x.month x.day r)
  where
    go : (t u : Bool) → ltb x.day (month_days x.year x.month) ≡ t → ltb x.month 12 ≡ u → Real x.year x.month x.day
        → P (cond t (record { year = x.year; month = x.month; day = x.day + 1 })
        (cond u (record { year = x.year; month = x.month + 1; day = 1 }) (record { year = x.year + 1; month = 1; day = 1 })))
    go true u p q a = same-month a (ltb-true _ _ p)
    go false true p q a = let l = ltb-false x.day (month_days x.year x.month) p in next a (omega (arith, l, a.day-to)) (ltb-true _ _ q)
    go false false p q a =
        let l = ltb-false x.day (month_days x.year x.month) p in
        let k = ltb-false x.month 12 q in
        let e : x.month ≡ 12 = omega (arith, k, a.month-to) in
        let n = ap (month_days x.year) e ∙ december x.year in
        first a e (omega (arith, l, a.day-to, n))

pub consecutive : (x : Date) → is_real x ≡ true → date_number (day_after x) ≡ date_number x + 1
consecutive x r =
    by-date (λ z. date_number z ≡ date_number x + 1) x r
    (λ a l. next-day x.year x.month x.day a.day-from)
    (λ a e l. first-of-next x.year x.month x.day a.month-from l a.day-from e)
    (λ a e f. rw (e, f) (next-year x.year a.since))

-- every real date but the last of 2099 has a real date after it
pub after-real : (x : Date) → is_real x ≡ true → (x.year ≡ 2099 → x.month ≡ 12 → x.day ≡ 31 → ⊥) → is_real (day_after x) ≡ true
after-real x r other =
    by-date (λ z. is_real z ≡ true) x r
    (λ a l. told a.since a.until a.month-from a.month-to (omega arith) (omega (arith, l)))
    (λ a e l. told a.since a.until (omega arith) (omega (arith, l)) (omega arith) (some-day x.year (x.month + 1)))
    (λ a e f.
    let n : x.year ≡ 2099 → ⊥ = λ y. other y e f in
    told (omega (arith, a.since)) (omega (arith, n, a.until)) (omega arith) (omega arith) (omega arith) (some-day (x.year + 1) 1))
