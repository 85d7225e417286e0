use Prim.Native.Nat.{◌<◌}
use native.Mathlib.Omega.{arith}
use borrow.Author.Rules.{sfits_of}
use mir.Syntax.{w64}
use mir.Facts.{to_z-of_z, to_z_pos}
use Rattle.totals.proofs.sums.put_pair.Goals as goal

pub returns : goal.returns
returns c = let h : c.args.w.rest < 9223372036854775808 = omega arith in
    let e = rw (to_z-of_z (sfits_of c.whole_less.type_inv), c.whole_less.ensures) at c.set_amount.ensures in
    let f = rw (to_z_pos w64 h, e) at c.set_amount-2.ensures in
    f
