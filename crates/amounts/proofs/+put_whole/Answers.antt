-- `amounts::put_whole` meets its contract. Assumes nothing.
use Prim.Native.Nat.{◌/◌}
use mathlib.Core.Path.{refl, sym}
use native.Mathlib.Omega.{arith}
use Rattle.wholes.specs.Whole.{whole_text}
use Rattle.wholes.proofs.Wholes.{last, on, whole-few}
use Rattle.amounts.proofs.Putting.{taken, byte_put, told, more}
use Rattle.amounts.proofs.+put_whole.Goals as goal

pub returns-then-n-lt10 : goal.returns-then-n-lt10
returns-then-n-lt10 t c =
    let it = told (sym (last _ c.if-n-lt10.true)) (byte_put _ _ _ _ _ _ refl c.numeral.ensures c.set_byte.ensures) in
    record { end = it.0; buffer = it.1 }

pub overflow_add-result-2 : goal.overflow_add-result-2
overflow_add-result-2 t c = omega (arith, c.put_whole-end.ensures.end, whole-few 19 (c.args.n / 10) (omega arith))

pub returns : goal.returns
returns t c =
    let p = taken _ _ (whole_text (c.args.n / 10)) _ _ (c.put_whole-end.ensures.end, c.put_whole-end.ensures.buffer) in
    let it = told (sym (on _ c.if-n-lt10.false)) (more p (byte_put _ _ _ _ _ _ refl c.numeral-2.ensures c.set_byte-2.ensures)) in
    record { end = it.0; buffer = it.1 }
