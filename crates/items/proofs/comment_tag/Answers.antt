use native.Mathlib.Omega.{arith}
use borrow.Author.Tests.{eq-eqb, ne_eqb}
use Rattle.items.specs.Item.{comment_item, comment_tag}
use borrow.Author.Rules.{rules}
use Rattle.items.proofs.comment_tag.Goals as goal

pub overflow_add-result : goal.overflow_add-result
overflow_add-result c = omega (arith, rw c.in-Some.is at c.comment_at.ensures.size)

pub returns-in-Some : goal.returns-in-Some
unfolding comment_tag comment_item
returns-in-Some c = record { item = simp (c.in-Some.is, ← c.comment_at.ensures.reach, ← c.rest.ensures.list, eq-eqb _ _ c.if-byte_at-eq45-2.true, ← c.byte_at-then-byte_at-eq45.ensures, eq-eqb _ _ c.if-byte_at-eq45.true, ← c.byte_at.ensures); size = omega (arith, rw c.in-Some.is at c.comment_at.ensures.size) }

pub returns-in-None : goal.returns-in-None
unfolding comment_tag comment_item
returns-in-None c = record { item = simp (c.in-None.is, ← c.comment_at.ensures.reach, ← c.rest.ensures.list, eq-eqb _ _ c.if-byte_at-eq45-2.true, ← c.byte_at-then-byte_at-eq45.ensures, eq-eqb _ _ c.if-byte_at-eq45.true, ← c.byte_at.ensures); size = omega (arith, rw c.in-None.is at c.comment_at.ensures.size) }

pub returns-else-byte_at-eq45-2 : goal.returns-else-byte_at-eq45-2
unfolding comment_tag comment_item
returns-else-byte_at-eq45-2 c = record { item = simp (ne_eqb _ _ c.if-byte_at-eq45-2.false, ← c.byte_at-then-byte_at-eq45.ensures, eq-eqb _ _ c.if-byte_at-eq45.true, ← c.byte_at.ensures); size = search rules }

pub returns-else-byte_at-eq45 : goal.returns-else-byte_at-eq45
unfolding comment_tag comment_item
returns-else-byte_at-eq45 c = record { item = simp (ne_eqb _ _ c.if-byte_at-eq45.false, ← c.byte_at.ensures); size = search rules }
