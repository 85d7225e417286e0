use native.Mathlib.Omega.{arith}
use Rattle.prolog.specs.Prolog.{encoded_by, encoded}
use Rattle.prolog.proofs.encoding_at.Goals as goal

pub overflow_add-a : goal.overflow_add-a
overflow_add-a c = omega (arith, rw c.in-Attribute.is at c.piece_at.ensures.size)

pub declared_to-requires : goal.declared_to-requires
declared_to-requires c = omega (arith, rw c.in-Attribute.is at c.piece_at.ensures.size, c.rest-t.ensures.size)

pub returns-then-is_utf : goal.returns-then-is_utf
unfolding encoded encoded_by
returns-then-is_utf c = record { begin = simp (← c.declared_to.ensures.begin, c.if-is_utf.true, ← c.is_utf.ensures, ← c.part-then-is_same.ensures, c.if-is_same.true, ← c.is_same.ensures, ← c.part.ensures, c.in-Attribute.is, ← c.piece_at.ensures.piece, ← c.rest-t.ensures.list); size = omega (arith, rw c.in-Attribute.is at c.piece_at.ensures.size) }

pub returns-else-is_utf : goal.returns-else-is_utf
unfolding encoded encoded_by
returns-else-is_utf c = record { begin = simp (c.if-is_utf.false, ← c.is_utf.ensures, ← c.part-then-is_same.ensures, c.if-is_same.true, ← c.is_same.ensures, ← c.part.ensures, c.in-Attribute.is, ← c.piece_at.ensures.piece, ← c.rest-t.ensures.list); size = omega (arith, rw c.in-Attribute.is at c.piece_at.ensures.size) }

pub returns-else-is_same : goal.returns-else-is_same
unfolding encoded encoded_by
returns-else-is_same c = record { begin = simp (c.if-is_same.false, ← c.is_same.ensures, ← c.part.ensures, c.in-Attribute.is, ← c.piece_at.ensures.piece, ← c.rest-t.ensures.list); size = omega (arith, rw c.in-Attribute.is at c.piece_at.ensures.size) }

pub returns-in-Close : goal.returns-in-Close
unfolding encoded encoded_by
returns-in-Close c = record { begin = simp (← c.declared_to-in-Close.ensures.begin, c.in-Close.is, ← c.piece_at.ensures.piece, ← c.rest-t.ensures.list); size = omega (arith, rw c.in-Close.is at c.piece_at.ensures.size) }

pub returns-in-CloseEmpty : goal.returns-in-CloseEmpty
unfolding encoded encoded_by
returns-in-CloseEmpty c = record { begin = simp (← c.declared_to-in-CloseEmpty.ensures.begin, c.in-CloseEmpty.is, ← c.piece_at.ensures.piece, ← c.rest-t.ensures.list); size = omega (arith, rw c.in-CloseEmpty.is at c.piece_at.ensures.size) }

pub returns-in-Torn : goal.returns-in-Torn
unfolding encoded encoded_by
returns-in-Torn c = record { begin = simp (← c.declared_to-in-Torn.ensures.begin, c.in-Torn.is, ← c.piece_at.ensures.piece, ← c.rest-t.ensures.list); size = omega (arith, rw c.in-Torn.is at c.piece_at.ensures.size) }
