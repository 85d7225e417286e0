use mathlib.Core.Path.{sym, ◌∙◌}
use Rattle.times.proofs.Consecutive.{real}
use Rattle.times.proofs.calendar.sum_of.Goals as goal

pub year_days-requires : goal.year_days-requires
year_days-requires c = let f = real _ _ _ (sym c.is_real.ensures ∙ c.if-is_real.true) in
    (f.since, f.until)

pub leap_days_before-requires : goal.leap_days_before-requires
leap_days_before-requires c = let f = real _ _ _ (sym c.is_real.ensures ∙ c.if-is_real.true) in
    (f.since, f.until)

pub overflow_sub-result : goal.overflow_sub-result
overflow_sub-result c = let f = real _ _ _ (sym c.is_real.ensures ∙ c.if-is_real.true) in
    f.day-from
