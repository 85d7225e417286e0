use Prim.Native.Nat.{◌-◌, ◌<◌}
use mathlib.Core.Path.{ap}
use native.Mathlib.Omega.{arith}
use borrow.Author.Tests.{le-ltb, lt-ltb}
use borrow.Author.Rules.{sfits_of}
use lib.IntN.{negsuc}
use mir.Syntax.{w64}
use mir.Facts.{to_z-of_z, to_z_pos}
use Rattle.totals.proofs.Integers.{below-is}
use Rattle.totals.proofs.sums.whole_less.Goals as goal

pub returns-then-v-w : goal.returns-then-v-w
returns-then-v-w c = let h : c.args.w - c.args.v < 9223372036854775808 = omega arith in rw (to_z_pos w64 h, le-ltb _ _ c.if-v-w.true)

pub overflow_sub-result-2 : goal.overflow_sub-result-2
overflow_sub-result-2 c = let h : c.args.v - c.args.w - 1 < 9223372036854775808 = omega arith in
    rw (to_z_pos w64 h, below-is) (sfits_of h)

pub returns : goal.returns
returns c = let h : c.args.v - c.args.w - 1 < 9223372036854775808 = omega arith in
    rw (to_z_pos w64 h, below-is, to_z-of_z (sfits_of {w = w64} h), lt-ltb _ _ c.if-v-w.false) (ap negsuc (omega arith))
