use Prim.Native.Nat.{◌+◌, ◌*◌, ◌%◌, ◌≤◌, ◌<◌}
use native.Mathlib.Omega.{arith}
use native.Mathlib.Nat.{div-add-mod', mod-lt}
use Rattle.totals.specs.Rules.{most_quarters, too_large}
use Rattle.totals.proofs.Words.{parts, rest-most, whole-most}
use Rattle.totals.proofs.sums.with_times.Goals as goal

pub overflow_mul-rest : goal.overflow_mul-rest
overflow_mul-rest c = let h : c.args.b < 2 * too_large = omega arith in let l : c.args.n ≤ most_quarters = omega arith in record { fits = omega (arith, rest-most _ _ h l) }

pub overflow_add-rest : goal.overflow_add-rest
overflow_add-rest c = let h : c.args.b < 2 * too_large = omega arith in let l : c.args.n ≤ most_quarters = omega arith in record { fits = omega (arith, rest-most _ _ h l) }

pub overflow_mul-whole : goal.overflow_mul-whole
overflow_mul-whole c = let h : c.args.b < 2 * too_large = omega arith in let l : c.args.n ≤ most_quarters = omega arith in record { fits = omega (arith, whole-most _ _ h l) }

pub overflow_add-whole : goal.overflow_add-whole
overflow_add-whole c = let h : c.args.b < 2 * too_large = omega arith in let l : c.args.n ≤ most_quarters = omega arith in record { fits = omega (arith, whole-most _ _ h l) }

pub overflow_add-whole-2 : goal.overflow_add-whole-2
overflow_add-whole-2 c = let h : c.args.b < 2 * too_large = omega arith in let l : c.args.n ≤ most_quarters = omega arith in let r = c.args.w.rest + c.args.b % 1000 * c.args.n in record { fits = omega (arith, whole-most _ _ h l, rest-most _ _ h l, div-add-mod' r 1000) }

pub returns : goal.returns
returns c = let r = c.args.w.rest + c.args.b % 1000 * c.args.n in let m = mod-lt r {m = 1000} (omega arith) in record { is = omega (arith, parts c.args.b c.args.n, div-add-mod' r 1000); rest = m }
