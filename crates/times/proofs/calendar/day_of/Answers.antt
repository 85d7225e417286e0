use native.Mathlib.Omega.{arith}
use mathlib.Core.Path.{sym, ◌∙◌}
use Rattle.times.proofs.Consecutive.{real, short-month}
use Rattle.times.proofs.calendar.day_of.Goals as goal

pub day_number-requires : goal.day_number-requires
day_number-requires c = let f = real _ _ _ (sym c.is_real.ensures ∙ c.if-is_real.true) in
    let l = short-month c.args.y c.args.m in
    (f.since, f.until, f.day-from, omega (arith, f.day-to))
