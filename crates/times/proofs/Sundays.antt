-- "one rule covers the whole table: each is a Sunday from the 25th to the 31st of its month": one test over the whole table, and the rule at each entry. From
-- it: each entry is the last Sunday of its month. Assumes nothing.
use Prim.Native.Nat.{ℕ, ◌+◌, ◌-◌, ◌≤◌, ◌<◌, ◌%◌}
use mathlib.Core.Path.{◌≡◌, refl}
use mathlib.Core.Bool.{Bool, true, and-eq-true_iff}
use native.Mathlib.Omega.{arith}
use lib.ListN.{get_or}
use lib.Dec.{leb, eqb}
use borrow.Author.Tests.{leb-true, eqb-true}
use Rattle.lists.proofs.Cases.{by_cond}
use Rattle.times.specs.Calendar.{leap, month_days, real_date, days_before, leap_day, day_number}
use Rattle.times.specs.Sundays.{changes, change_year, change_month, sunday, ruled}
use Rattle.lists.proofs.Below.{every, below}
use Rattle.times.proofs.Consecutive.{real}

entry-ruled : ℕ → Bool
entry-ruled k = ruled k (get_or changes k 0)

table-ruled : every entry-ruled 200 ≡ true
unfolding entry-ruled changes change_year change_month sunday ruled leap days_before leap_day day_number
table-ruled = refl

pub rule : (k : ℕ) → k < 200 → ruled k (get_or changes k 0) ≡ true
unfolding entry-ruled
rule k h = below entry-ruled 200 table-ruled k h

-- what the rule says of entry k
pub record Ruled (k n : ℕ) : Type 0 where
  pub is-sunday : sunday n ≡ true
  pub from-25 : day_number (change_year k) (change_month k) 25 ≤ n
  pub to-31 : n ≤ day_number (change_year k) (change_month k) 31

pub entry : (k : ℕ) → k < 200 → Ruled k (get_or changes k 0)
unfolding ruled
entry k h =
    let a = (and-eq-true_iff (sunday (get_or changes k 0)) _).0 (rule k h) in
    let b = (and-eq-true_iff (leb (day_number (change_year k) (change_month k) 25) (get_or changes k 0)) _).0 a.1 in
    record {
      is-sunday = a.0;
      from-25 = leb-true _ _ b.0;
      to-31 = leb-true _ _ b.1;
    }

-- both months have 31 days
long-month : (y k : ℕ) → month_days y (change_month k) ≡ 31
unfolding change_month month_days
long-month y k = by_cond (λ (m : ℕ). month_days y m ≡ 31) (eqb (k % 2) 0) refl refl

-- Sundays are seven days apart, and the second day of 2000 is one
pub sevenths : (n : ℕ) → sunday n ≡ true → n % 7 ≡ 1
unfolding sunday leap days_before leap_day day_number
sevenths n s = eqb-true (n % 7) 1 s

-- the days of a month, from its first
pub in-month : (y m d : ℕ) → 1 ≤ d → day_number y m d ≡ day_number y m 1 + (d - 1)
unfolding day_number
in-month y m d h = omega arith

-- No Sunday of the month comes after it.
pub last-sunday : (k d : ℕ) → k < 200 → real_date (change_year k) (change_month k) d ≡ true → sunday (day_number (change_year k) (change_month k) d) ≡ true
    → day_number (change_year k) (change_month k) d ≤ get_or changes k 0
last-sunday k d h r s =
    let e = entry k h in
    let f = real (change_year k) (change_month k) d r in
    let l = long-month (change_year k) k in
    let p = sevenths (day_number (change_year k) (change_month k) d) s in
    let q = sevenths (get_or changes k 0) e.is-sunday in
    let a = in-month (change_year k) (change_month k) d f.day-from in
    let b = in-month (change_year k) (change_month k) 25 (omega arith) in
    omega (arith, e.from-25, f.day-to)
