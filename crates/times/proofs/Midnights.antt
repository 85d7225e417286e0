-- Local midnight: every day has one, and from each to the next there are 92, 96 or 100 quarter hours. Assumes nothing.
use Prim.Native.Nat.{ℕ, ◌+◌, ◌-◌, ◌*◌, ◌/◌, ◌≤◌, ◌<◌}
use mathlib.Core.Path.{◌≡◌, refl, ap, ◌∙◌}
use mathlib.Core.Bool.{Bool, true, false, cond, ◌&&◌, and-eq-true_iff}
use mathlib.Core.Logic.{◌⊎◌, inl, inr, ⊎_elim}
use native.Mathlib.Omega.{arith}
use lib.Dec.{ltb, eqb}
use borrow.Author.Tests.{le-leb, lt-leb, ltb-true, lt-ltb, le-ltb, eqb-true, eq-eqb, ne_eqb}
use Rattle.lists.proofs.Cases.{by_cond, eqb-cases, ltb-cases}
use Rattle.times.specs.Calendar.{real_date, day_number}
use Rattle.times.specs.Sundays.{changes, march_sunday, october_sunday}
use Rattle.times.specs.Midnight.{year_of, in_summer, start_of_day}
use Rattle.times.specs.Periods.{quarter_hours, delivery_day, day_period}
use Rattle.lists.proofs.Below.{every, below}
use Rattle.times.proofs.Consecutive.{real, leaps, within-year}

-- ---- a day's year

-- the first day of the year 2000 + i
first_of : ℕ → ℕ
first_of i = i * 365 + (i + 3) / 4

-- the year of a real date's day is the date's
pub year-of-date : (y m d : ℕ) → real_date y m d ≡ true → year_of (day_number y m d) ≡ y - 2000
unfolding year_of day_number
year-of-date y m d r =
    let f = real y m d r in
    let w = within-year y m f.month-from f.month-to in
    let l = leaps y f.since in
    omega (arith, f.since, f.day-from, f.day-to)

-- ---- the Sundays of a year lie within it, in their order

ordered : ℕ → Bool
ordered i = ltb (first_of i) (march_sunday i) && (ltb (march_sunday i) (october_sunday i) && ltb (october_sunday i + 1) (first_of (i + 1)))

all-ordered : every ordered 100 ≡ true
unfolding ordered first_of changes march_sunday october_sunday
all-ordered = refl

record Ordered (i : ℕ) : Type 0 where
  from : first_of i < march_sunday i
  middle : march_sunday i < october_sunday i
  to : october_sunday i + 1 < first_of (i + 1)

order : (i : ℕ) → i < 100 → Ordered i
unfolding ordered
order i h =
    let a = (and-eq-true_iff (ltb (first_of i) (march_sunday i)) _).0 (below ordered 100 all-ordered i h) in
    let b = (and-eq-true_iff (ltb (march_sunday i) (october_sunday i)) _).0 a.1 in
    record {
      from = ltb-true _ _ a.0;
      middle = ltb-true _ _ b.0;
      to = ltb-true _ _ b.1;
    }

-- ---- from a day to the next

-- the next day is of the same year, or the first of the next
next-year-of : (d : ℕ) → (year_of (d + 1) ≡ year_of d) ⊎ ((year_of (d + 1) ≡ year_of d + 1) × (d + 1 ≡ first_of (year_of d + 1)))
unfolding year_of first_of
next-year-of d =
    ⊎_elim (λ y. inl y.0) (λ y. let n = y.0 in inr (omega arith, omega arith)) (eqb-cases (4 * (d + 1) / 1461) (4 * d / 1461))

module _ (d i : ℕ) (of : year_of d ≡ i) where
  summer : i < 100 → march_sunday i < d → d ≤ october_sunday i → in_summer d ≡ true
  unfolding in_summer
  summer h p q = simp (of, lt-ltb _ _ h, lt-ltb _ _ p, le-leb _ _ q)

  winter-before : i < 100 → d ≤ march_sunday i → in_summer d ≡ false
  unfolding in_summer
  winter-before h p = simp (of, lt-ltb _ _ h, le-ltb _ _ p)

  winter-after : i < 100 → march_sunday i < d → october_sunday i < d → in_summer d ≡ false
  unfolding in_summer
  winter-after h p q = simp (of, lt-ltb _ _ h, lt-ltb _ _ p, lt-leb _ _ q)

  -- "the midnight of 2100-01-01"
  winter-past : 100 ≤ i → in_summer d ≡ false
  unfolding in_summer
  winter-past h = simp (of, le-ltb _ _ h)

-- the quarter hours from a midnight to the next: whether the clocks show summer time at the first, and at the second
abbrev by-clocks : Bool → Bool → ℕ
by-clocks true true = 96
by-clocks true false = 100
by-clocks false true = 92
by-clocks false false = 96

day-length : (d : ℕ) {s t : Bool} → 1 ≤ d → in_summer d ≡ s → in_summer (d + 1) ≡ t → quarter_hours (start_of_day d) (start_of_day (d + 1)) ≡ by-clocks s t
unfolding quarter_hours start_of_day
day-length d {s} {t} h p q = rw (p, q) (go s t)
  where
    go : (s t : Bool) → (((d + 1 - 1) * 1440 + cond t (22 * 60) (23 * 60)) - ((d - 1) * 1440 + cond s (22 * 60) (23 * 60))) / 15 ≡ by-clocks s t
    go true true = omega arith
    go true false = omega arith
    go false true = omega arith
    go false false = omega arith

-- 92 on the March Sunday, 100 on the October one, 96 on every other day
abbrev by-sundays : Bool → Bool → ℕ
by-sundays march october = cond march 92 (cond october 100 96)

pub quarters_on : ℕ → ℕ
quarters_on d = by-sundays (eqb d (march_sunday (year_of d))) (eqb d (october_sunday (year_of d)))

module _ (d i : ℕ) (h : 1 ≤ d) (of : year_of d ≡ i) where
  abbrev Right : Type 0
  Right = quarter_hours (start_of_day d) (start_of_day (d + 1)) ≡ quarters_on d

  told : {s t a b : Bool} → in_summer d ≡ s → in_summer (d + 1) ≡ t → eqb d (march_sunday i) ≡ a → eqb d (october_sunday i) ≡ b
      → by-clocks s t ≡ by-sundays a b → Right
  unfolding quarters_on
  told p q a b e = day-length d h p q ∙ e ∙ simp (of, a, b)

  -- the next day is of the same year
  same-year : year_of (d + 1) ≡ i → i < 100 → Ordered i → Right
  same-year next l o = ⊎_elim before (λ y. ⊎_elim march (λ z. ⊎_elim (between z.0 y.0) (λ x. ⊎_elim october (after x.0) (eqb-cases d (october_sunday i))) (ltb-cases d (october_sunday i))) (eqb-cases d (march_sunday i))) (ltb-cases d (march_sunday i))
    where
      other : {n : ℕ} → (d ≡ n → ⊥) → eqb d n ≡ false
      other {n} e = ne_eqb d n e

      before : (d < march_sunday i) × (ltb d (march_sunday i) ≡ true) → Right
      before y =
          let m = o.middle in
          told (winter-before d i of l (omega arith)) (winter-before (d + 1) i next l (omega arith)) (other (λ e. omega arith)) (other (λ e. omega arith)) refl

      march : (d ≡ march_sunday i) × (eqb d (march_sunday i) ≡ true) → Right
      march z =
          let m = o.middle in
          told (winter-before d i of l (omega arith)) (summer (d + 1) i next l (omega arith) (omega arith)) z.1 (other (λ e. omega arith)) refl

      between : (d ≡ march_sunday i → ⊥) → march_sunday i ≤ d → (d < october_sunday i) × (ltb d (october_sunday i) ≡ true) → Right
      between n y x = told (summer d i of l (omega (arith, n)) (omega arith)) (summer (d + 1) i next l (omega arith) (omega arith)) (other n) (other (λ e. omega arith)) refl

      october : (d ≡ october_sunday i) × (eqb d (october_sunday i) ≡ true) → Right
      october x =
          let m = o.middle in
          told (summer d i of l (omega arith) (omega arith)) (winter-after (d + 1) i next l (omega arith) (omega arith)) (other (λ e. omega arith)) x.1 refl

      after : october_sunday i ≤ d → (d ≡ october_sunday i → ⊥) × (eqb d (october_sunday i) ≡ false) → Right
      after y x =
          let m = o.middle in
          let n = x.0 in
          told (winter-after d i of l (omega arith) (omega (arith, n))) (winter-after (d + 1) i next l (omega arith) (omega arith)) (other (λ e. omega arith)) x.1 refl

  -- the next day is the first of the next year
  last-of-year : year_of (d + 1) ≡ i + 1 → d + 1 ≡ first_of (i + 1) → i < 100 → Ordered i → Right
  last-of-year next f l o =
      let m = o.middle in
      let t = o.to in
      told (winter-after d i of l (omega arith) (omega arith)) first (ne_eqb d (march_sunday i) (λ e. omega arith)) (ne_eqb d (october_sunday i) (λ e. omega arith)) refl
    where
      first : in_summer (d + 1) ≡ false
      first =
          ⊎_elim
          (λ y. let b = (order (i + 1) y.0).from in winter-before (d + 1) (i + 1) next y.0 (omega arith))
          (λ y. winter-past (d + 1) (i + 1) next y.0)
          (ltb-cases (i + 1) 100)

within : (d : ℕ) → d < 36525 → year_of d < 100
unfolding year_of
within d h = omega arith

-- every day that a period can name as its first: 2000-01-02 to 2099-12-31
pub quarters-of-day : (d : ℕ) → 1 ≤ d → d < 36525 → quarter_hours (start_of_day d) (start_of_day (d + 1)) ≡ quarters_on d
quarters-of-day d h l =
    ⊎_elim
    (λ e. same-year d (year_of d) h refl e (within d l) (order (year_of d) (within d l)))
    (λ e. last-of-year d (year_of d) h refl e.0 e.1 (within d l) (order (year_of d) (within d l)))
    (next-year-of d)

-- ---- the periods of kind 1

-- a day starts on the date before
pub day-of-start : (d : ℕ) → 1 ≤ d → delivery_day (start_of_day d) ≡ d
unfolding delivery_day start_of_day
day-of-start d h = by_cond (λ (m : ℕ). ((d - 1) * 1440 + m) / 1440 + 1 ≡ d) (in_summer d) (omega arith) (omega arith)

-- the day d is one, and each is that of the date after its start's
pub day-taken : (d : ℕ) → 1 ≤ d → day_period (start_of_day d) (start_of_day (d + 1)) ≡ true
unfolding day_period
day-taken d h = simp (day-of-start d h, eq-eqb (start_of_day d) (start_of_day d) refl, eq-eqb (start_of_day (d + 1)) (start_of_day (d + 1)) refl)

pub day-alone : (from to : ℕ) → day_period from to ≡ true → (from ≡ start_of_day (delivery_day from)) × (to ≡ start_of_day (delivery_day from + 1))
unfolding day_period
day-alone from to t =
    let a = (and-eq-true_iff (eqb from (start_of_day (delivery_day from))) _).0 t in
    (eqb-true _ _ a.0, eqb-true _ _ a.1)

-- the hour at which the day d starts
pub hour_of : ℕ → ℕ
hour_of d = cond (in_summer d) 22 23

at-hour : (d : ℕ) → start_of_day (d + 1) ≡ d * 1440 + hour_of (d + 1) * 60
unfolding start_of_day hour_of
at-hour d = go (in_summer (d + 1))
  where
    go : (t : Bool) → (d + 1 - 1) * 1440 + cond t (22 * 60) (23 * 60) ≡ d * 1440 + cond t 22 23 * 60
    go true = omega arith
    go false = omega arith

-- Of the pairs of hours on the date d and the next, exactly one is taken.
pub one-pair : (d a b : ℕ) → a < 24 → b < 24 → day_period (d * 1440 + a * 60) ((d + 1) * 1440 + b * 60) ≡ (eqb a (hour_of (d + 1)) && eqb b (hour_of (d + 2)))
unfolding day_period delivery_day
one-pair d a b h k =
    let e : (d * 1440 + a * 60) / 1440 + 1 ≡ d + 1 = omega arith in
    let f : d + 1 + 1 ≡ d + 2 = omega arith in
    let p = at-hour d in
    let q : start_of_day (d + 2) ≡ (d + 1) * 1440 + hour_of (d + 2) * 60 = rw f at (at-hour (d + 1)) in
    simp (e, f, same_test (d * 1440 + a * 60) (start_of_day (d + 1)) a (hour_of (d + 1)) (λ g. omega arith) (λ g. omega arith), same_test ((d + 1) * 1440 + b * 60) (start_of_day (d + 2)) b (hour_of (d + 2)) (λ g. omega arith) (λ g. omega arith))
  where
    same_test : (m n j l : ℕ) → (m ≡ n → j ≡ l) → (j ≡ l → m ≡ n) → eqb m n ≡ eqb j l
    same_test m n j l there back = ⊎_elim (λ y. y.1 ∙ (simp (eq-eqb j l (there y.0)))) (λ y. y.1 ∙ (simp (ne_eqb j l (λ e. y.0 (back e))))) (eqb-cases m n)

-- The end of a day is the start of the next.
pub next-day-period : (from to : ℕ) → day_period from to ≡ true → (delivery_day to ≡ delivery_day from + 1) × (day_period to (start_of_day (delivery_day from + 2)) ≡ true)
next-day-period from to t =
    let a = day-alone from to t in
    let f : delivery_day from + 1 + 1 ≡ delivery_day from + 2 = omega arith in (
      ap delivery_day a.1 ∙ day-of-start (delivery_day from + 1) (omega arith),
      rw (← f) (rw a.1 (day-taken (delivery_day from + 1) (omega arith))),
    )

-- N of every period that can be written
pub day-quarters : (from to : ℕ) → day_period from to ≡ true → to < 36525 * 1440 → quarter_hours from to ≡ quarters_on (delivery_day from)
unfolding delivery_day
day-quarters from to t h =
    let a = day-alone from to t in
    let n = (next-day-period from to t).0 in
    ap (λ (m : ℕ). quarter_hours m to) a.0
    ∙ ap (λ (m : ℕ). quarter_hours (start_of_day (delivery_day from)) m) a.1
    ∙ quarters-of-day (delivery_day from) (omega arith) (omega arith)
