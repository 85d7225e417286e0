use native.Mathlib.Omega.{arith}
use Rattle.prolog.specs.Prolog.{declaration_by, declaration}
use Rattle.prolog.proofs.declaration_at.Goals as goal

pub overflow_add-next : goal.overflow_add-next
overflow_add-next c = omega (arith, rw c.in-Attribute.is at c.piece_at.ensures.size)

pub encoding_at-requires : goal.encoding_at-requires
encoding_at-requires c = omega (arith, rw c.in-Attribute.is at c.piece_at.ensures.size, c.rest-t.ensures.size)

pub returns-then-is_same-2 : goal.returns-then-is_same-2
unfolding declaration declaration_by
returns-then-is_same-2 c = record { begin = simp (← c.encoding_at.ensures.begin, c.if-is_same-2.true, ← c.is_same-then-is_same.ensures, ← c.part-then-is_same.ensures, c.if-is_same.true, ← c.is_same.ensures, ← c.part.ensures, c.in-Attribute.is, ← c.piece_at.ensures.piece, ← c.rest-t.ensures.list); size = omega (arith, rw c.in-Attribute.is at c.piece_at.ensures.size) }

pub returns-else-is_same-2 : goal.returns-else-is_same-2
unfolding declaration declaration_by
returns-else-is_same-2 c = record { begin = simp (c.if-is_same-2.false, ← c.is_same-then-is_same.ensures, ← c.part-then-is_same.ensures, c.if-is_same.true, ← c.is_same.ensures, ← c.part.ensures, c.in-Attribute.is, ← c.piece_at.ensures.piece, ← c.rest-t.ensures.list); size = omega (arith, rw c.in-Attribute.is at c.piece_at.ensures.size) }

pub returns-else-is_same : goal.returns-else-is_same
unfolding declaration declaration_by
returns-else-is_same c = record { begin = simp (c.if-is_same.false, ← c.is_same.ensures, ← c.part.ensures, c.in-Attribute.is, ← c.piece_at.ensures.piece, ← c.rest-t.ensures.list); size = omega (arith, rw c.in-Attribute.is at c.piece_at.ensures.size) }

pub returns-in-Close : goal.returns-in-Close
unfolding declaration declaration_by
returns-in-Close c = record { begin = simp (c.in-Close.is, ← c.piece_at.ensures.piece, ← c.rest-t.ensures.list); size = omega (arith, rw c.in-Close.is at c.piece_at.ensures.size) }

pub returns-in-CloseEmpty : goal.returns-in-CloseEmpty
unfolding declaration declaration_by
returns-in-CloseEmpty c = record { begin = simp (c.in-CloseEmpty.is, ← c.piece_at.ensures.piece, ← c.rest-t.ensures.list); size = omega (arith, rw c.in-CloseEmpty.is at c.piece_at.ensures.size) }

pub returns-in-Torn : goal.returns-in-Torn
unfolding declaration declaration_by
returns-in-Torn c = record { begin = simp (c.in-Torn.is, ← c.piece_at.ensures.piece, ← c.rest-t.ensures.list); size = omega (arith, rw c.in-Torn.is at c.piece_at.ensures.size) }
