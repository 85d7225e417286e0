-- `amounts::put_amount` meets its contract: by its sign an amount is 0 or more, or -1 less its size. Assumes nothing.
use Prim.Native.Nat.{◌+◌}
use mathlib.Core.Path.{refl}
use native.Mathlib.Omega.{arith}
use lib.IntN.{nat_abs}
use borrow.Author.Rules.{sfits_of}
use mir.Facts.{to_z-of_z}
use Rattle.lists.proofs.Signs.{from_zero, below-zero, back}
use Rattle.amounts.specs.Texts.{unsigned_text}
use Rattle.amounts.proofs.Putting.{taken, byte_put, told-first, more, from_zero_up, below-zero-minus}
use Rattle.amounts.proofs.put_amount.Goals as goal

pub overflow_cast-amount : goal.overflow_cast-amount
overflow_cast-amount c = let f = c.ranges.amount in rw (to_z-of_z f) (from_zero _ f (rw (to_z-of_z f) at c.if-amount-ge0.true))

pub returns-then-amount-ge0 : goal.returns-then-amount-ge0
returns-then-amount-ge0 c = let it = let f = c.ranges.amount in
    let p = taken _ _ (unsigned_text (nat_abs c.args.amount)) _ _ (rw (to_z-of_z f) at c.put_unsigned.ensures.end, rw (to_z-of_z f) at c.put_unsigned.ensures.buffer) in
    told-first (from_zero_up c.args.amount (rw (to_z-of_z f) at c.if-amount-ge0.true)) p in record { answer = it.0; buffer = it.1 }

pub overflow_sub-below : goal.overflow_sub-below
overflow_sub-below c = let f = c.ranges.amount in let k = below-zero _ f (rw (to_z-of_z f) at c.if-amount-ge0.false) in rw (to_z-of_z f, k.1) (sfits_of k.2)

pub overflow_cast-below : goal.overflow_cast-below
overflow_cast-below c = let f = c.ranges.amount in
    let k = below-zero _ f (rw (to_z-of_z f) at c.if-amount-ge0.false) in
    let h = k.2 in
    rw (to_z-of_z f, k.1, back k.0 h) (tt, record { fits = omega arith })

pub overflow_add-below : goal.overflow_add-below
overflow_add-below c = let f = c.ranges.amount in
    let k = below-zero _ f (rw (to_z-of_z f) at c.if-amount-ge0.false) in
    let h = k.2 in
    rw (to_z-of_z f, k.1, back k.0 h) (record { fits = omega arith })

pub returns : goal.returns
returns c = let it = let f = c.ranges.amount in
    let k = below-zero _ f (rw (to_z-of_z f) at c.if-amount-ge0.false) in
    let p = byte_put _ 0 _ _ 1 _ refl refl c.set_byte.ensures in
    let q = taken _ 1 (unsigned_text (k.0 + 1)) _ _ (rw (to_z-of_z f, k.1, back k.0 k.2) at c.put_unsigned-2.ensures.end, rw (to_z-of_z f, k.1, back k.0 k.2) at c.put_unsigned-2.ensures.buffer) in
    told-first (below-zero-minus k.0 k.3) (more p q) in record { answer = it.0; buffer = it.1 }
