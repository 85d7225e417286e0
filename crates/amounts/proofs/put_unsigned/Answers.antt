-- `amounts::put_unsigned` meets its contract. Assumes nothing.
use Prim.Native.Nat.{◌/◌, ◌%◌}
use mathlib.Core.Path.{refl}
use native.Mathlib.Omega.{arith}
use Rattle.wholes.specs.Whole.{whole_text}
use Rattle.amounts.specs.Texts.{fraction_text, unsigned_text}
use Rattle.wholes.proofs.Wholes.{whole-few}
use Rattle.amounts.proofs.Putting.{taken, told, more}
use Rattle.amounts.proofs.put_unsigned.Goals as goal

pub put_fraction-requires : goal.put_fraction-requires
put_fraction-requires c = let f = whole-few 19 (c.args.n / 1000) (omega arith) in
    record { place = omega (arith, c.put_whole-end.ensures.end, f); part = omega arith }

pub returns : goal.returns
unfolding unsigned_text
returns c = let it = let n = c.args.n in
    let p = taken _ _ (whole_text (n / 1000)) _ _ (c.put_whole-end.ensures.end, c.put_whole-end.ensures.buffer) in
    let q = taken _ _ (fraction_text (n % 1000)) _ _ (c.put_fraction.ensures.end, c.put_fraction.ensures.buffer) in
    told refl (more p q) in record { end = it.0; buffer = it.1 }
