use native.Mathlib.Omega.{arith}
use Rattle.readable.specs.Readable.{readable_from, readable}
use Rattle.readable.proofs.lumintayag_readable_len.Goals as goal

pub overflow_add-result : goal.overflow_add-result
overflow_add-result c = omega (arith, rw c.in-Ok.is at c.first_item.ensures.size)

pub returns-in-Ok : goal.returns-in-Ok
unfolding readable readable_from
returns-in-Ok c = simp (← c.passed_len.ensures.len, ← c.rest.ensures.list, c.in-Ok.is, ← c.first_item.ensures.begin)

pub returns-in-Err : goal.returns-in-Err
unfolding readable readable_from
returns-in-Err c = simp (c.in-Err.is, ← c.first_item.ensures.begin)
