-- The day that the byte of a year tells is that of the table, for every year and both months: one test over the whole table, and what it says of each year.
-- Assumes nothing.
use Prim.Native.Nat.{ℕ, ◌+◌, ◌/◌, ◌%◌, ◌≤◌, ◌<◌}
use mathlib.Core.Path.{◌≡◌, refl}
use mathlib.Core.Bool.{Bool, true, ◌&&◌, and-eq-true_iff}
use lib.ListN.{get_or}
use lib.Dec.{leb, eqb}
use borrow.Author.Tests.{leb-true, eqb-true}
use Rattle.times.specs.Calendar.{leap, days_before, leap_day, day_number}
use Rattle.times.specs.Sundays.{changes, march_sunday, october_sunday}
use Rattle.times.specs.Packed.{packed}
use Rattle.lists.proofs.Below.{every, below}

march-told : ℕ → Bool
march-told i = leb (get_or packed i 0 / 8) 6 && eqb (day_number (2000 + i) 3 (25 + get_or packed i 0 / 8)) (march_sunday i)

october-told : ℕ → Bool
october-told i = leb (get_or packed i 0 % 8) 6 && eqb (day_number (2000 + i) 10 (25 + get_or packed i 0 % 8)) (october_sunday i)

year-told : ℕ → Bool
year-told i = march-told i && october-told i

all_told : every year-told 100 ≡ true
unfolding year-told march-told october-told packed changes march_sunday october_sunday leap days_before leap_day day_number
all_told = refl

pub march-day : (i : ℕ) → i < 100 → (get_or packed i 0 / 8 ≤ 6) × (day_number (2000 + i) 3 (25 + get_or packed i 0 / 8) ≡ march_sunday i)
unfolding year-told march-told
march-day i h =
    let a = (and-eq-true_iff (march-told i) (october-told i)).0 (below year-told 100 all_told i h) in
    let b = (and-eq-true_iff (leb (get_or packed i 0 / 8) 6) _).0 a.0 in
    (leb-true _ _ b.0, eqb-true _ _ b.1)

pub october-day : (i : ℕ) → i < 100 → (get_or packed i 0 % 8 ≤ 6) × (day_number (2000 + i) 10 (25 + get_or packed i 0 % 8) ≡ october_sunday i)
unfolding year-told october-told
october-day i h =
    let a = (and-eq-true_iff (march-told i) (october-told i)).0 (below year-told 100 all_told i h) in
    let b = (and-eq-true_iff (leb (get_or packed i 0 % 8) 6) _).0 a.1 in
    (leb-true _ _ b.0, eqb-true _ _ b.1)
