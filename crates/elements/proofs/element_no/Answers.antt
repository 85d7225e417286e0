use Prim.Native.Nat.{◌≤◌}
use mathlib.Core.Path.{sym}
use native.Mathlib.Omega.{arith}
use borrow.Author.Tests.{le-ltb}
use lib.Dec.{ltb}
use lib.ListN.{length}
use Rattle.slices.specs.Bytes.{byte}
use Rattle.slices.specs.Walk.{walk}
use Rattle.elements.specs.Names.{names}
use Rattle.elements.specs.Row.{picked, entry, told_in}
use Rattle.elements.proofs.Lengths.{long_in, as_long, no_number}
use Rattle.elements.proofs.element_no.Goals as goal

-- The row of each length from 0 to 32 is the search over the names that are as long.
pub returns-in-0 : goal.returns-in-0
unfolding names long_in told_in walk entry picked byte
returns-in-0 c = rw (as_long _ 0 c.in-0.is) c.told.ensures

pub returns-in-1 : goal.returns-in-1
unfolding names long_in told_in walk entry picked byte
returns-in-1 c = rw (as_long _ 1 c.in-1.is) c.told-in-1.ensures

pub returns-in-2 : goal.returns-in-2
unfolding names long_in told_in walk entry picked byte
returns-in-2 c = rw (as_long _ 2 c.in-2.is) c.told-in-2.ensures

pub returns-in-3 : goal.returns-in-3
unfolding names long_in told_in walk entry picked byte
returns-in-3 c = rw (as_long _ 3 c.in-3.is) c.told-in-3.ensures

pub returns-in-4 : goal.returns-in-4
unfolding names long_in told_in walk entry picked byte
returns-in-4 c = rw (as_long _ 4 c.in-4.is) c.told-in-4.ensures

pub returns-in-5 : goal.returns-in-5
unfolding names long_in told_in walk entry picked byte
returns-in-5 c = rw (as_long _ 5 c.in-5.is) c.told-in-5.ensures

pub returns-in-6 : goal.returns-in-6
unfolding names long_in told_in walk entry picked byte
returns-in-6 c = rw (as_long _ 6 c.in-6.is) c.told-in-6.ensures

pub returns-in-7 : goal.returns-in-7
unfolding names long_in told_in walk entry picked byte
returns-in-7 c = rw (as_long _ 7 c.in-7.is) c.told-in-7.ensures

pub returns-in-8 : goal.returns-in-8
unfolding names long_in told_in walk entry picked byte
returns-in-8 c = rw (as_long _ 8 c.in-8.is) c.told-in-8.ensures

pub returns-in-9 : goal.returns-in-9
unfolding names long_in told_in walk entry picked byte
returns-in-9 c = rw (as_long _ 9 c.in-9.is) c.told-in-9.ensures

pub returns-in-10 : goal.returns-in-10
unfolding names long_in told_in walk entry picked byte
returns-in-10 c = rw (as_long _ 10 c.in-10.is) c.told-in-10.ensures

pub returns-in-11 : goal.returns-in-11
unfolding names long_in told_in walk entry picked byte
returns-in-11 c = rw (as_long _ 11 c.in-11.is) c.told-in-11.ensures

pub returns-in-12 : goal.returns-in-12
unfolding names long_in told_in walk entry picked byte
returns-in-12 c = rw (as_long _ 12 c.in-12.is) c.told-in-12.ensures

pub returns-in-13 : goal.returns-in-13
unfolding names long_in told_in walk entry picked byte
returns-in-13 c = rw (as_long _ 13 c.in-13.is) c.told-in-13.ensures

pub returns-in-14 : goal.returns-in-14
unfolding names long_in told_in walk entry picked byte
returns-in-14 c = rw (as_long _ 14 c.in-14.is) c.told-in-14.ensures

pub returns-in-15 : goal.returns-in-15
unfolding names long_in told_in walk entry picked byte
returns-in-15 c = rw (as_long _ 15 c.in-15.is) c.told-in-15.ensures

pub returns-in-16 : goal.returns-in-16
unfolding names long_in told_in walk entry picked byte
returns-in-16 c = rw (as_long _ 16 c.in-16.is) c.told-in-16.ensures

pub returns-in-17 : goal.returns-in-17
unfolding names long_in told_in walk entry picked byte
returns-in-17 c = rw (as_long _ 17 c.in-17.is) c.told-in-17.ensures

pub returns-in-18 : goal.returns-in-18
unfolding names long_in told_in walk entry picked byte
returns-in-18 c = rw (as_long _ 18 c.in-18.is) c.told-in-18.ensures

pub returns-in-19 : goal.returns-in-19
unfolding names long_in told_in walk entry picked byte
returns-in-19 c = rw (as_long _ 19 c.in-19.is) c.told-in-19.ensures

pub returns-in-20 : goal.returns-in-20
unfolding names long_in told_in walk entry picked byte
returns-in-20 c = rw (as_long _ 20 c.in-20.is) c.told-in-20.ensures

pub returns-in-21 : goal.returns-in-21
unfolding names long_in told_in walk entry picked byte
returns-in-21 c = rw (as_long _ 21 c.in-21.is) c.told-in-21.ensures

pub returns-in-22 : goal.returns-in-22
unfolding names long_in told_in walk entry picked byte
returns-in-22 c = rw (as_long _ 22 c.in-22.is) c.told-in-22.ensures

pub returns-in-23 : goal.returns-in-23
unfolding names long_in told_in walk entry picked byte
returns-in-23 c = rw (as_long _ 23 c.in-23.is) c.told-in-23.ensures

pub returns-in-24 : goal.returns-in-24
unfolding names long_in told_in walk entry picked byte
returns-in-24 c = rw (as_long _ 24 c.in-24.is) c.told-in-24.ensures

pub returns-in-25 : goal.returns-in-25
unfolding names long_in told_in walk entry picked byte
returns-in-25 c = rw (as_long _ 25 c.in-25.is) c.told-in-25.ensures

pub returns-in-26 : goal.returns-in-26
unfolding names long_in told_in walk entry picked byte
returns-in-26 c = rw (as_long _ 26 c.in-26.is) c.told-in-26.ensures

pub returns-in-27 : goal.returns-in-27
unfolding names long_in told_in walk entry picked byte
returns-in-27 c = rw (as_long _ 27 c.in-27.is) c.told-in-27.ensures

pub returns-in-28 : goal.returns-in-28
unfolding names long_in told_in walk entry picked byte
returns-in-28 c = rw (as_long _ 28 c.in-28.is) c.told-in-28.ensures

pub returns-in-29 : goal.returns-in-29
unfolding names long_in told_in walk entry picked byte
returns-in-29 c = rw (as_long _ 29 c.in-29.is) c.told-in-29.ensures

pub returns-in-30 : goal.returns-in-30
unfolding names long_in told_in walk entry picked byte
returns-in-30 c = rw (as_long _ 30 c.in-30.is) c.told-in-30.ensures

pub returns-in-31 : goal.returns-in-31
unfolding names long_in told_in walk entry picked byte
returns-in-31 c = rw (as_long _ 31 c.in-31.is) c.told-in-31.ensures

pub returns-in-32 : goal.returns-in-32
unfolding names long_in told_in walk entry picked byte
returns-in-32 c = rw (as_long _ 32 c.in-32.is) c.told-in-32.ensures

pub returns-in-33-to-max : goal.returns-in-33-to-max
unfolding names
returns-in-33-to-max c = let h : 33 ≤ length c.args.name.now = omega arith in sym (no_number (λ l. ltb l 33) _ tt (le-ltb _ _ h))
