use native.Mathlib.Omega.{arith}
use mathlib.Core.Path.{◌∙◌}
use Rattle.times.proofs.Packed.{october-day}
use borrow.Author.Rules.{rules}
use Rattle.times.proofs.midnight.october_sunday.Goals as goal

pub day_number-requires : goal.day_number-requires
day_number-requires c = let l = (october-day c.args.year (search rules)).0 in
    (omega arith, omega arith, omega arith, omega arith)

pub returns : goal.returns
returns c = c.day_number.ensures.number ∙ rw c.sundays_of.ensures (october-day c.args.year (search rules)).1
