use borrow.Author.Tests.{eq-eqb, ne_eqb}
use Rattle.items.specs.Item.{end_close, end_name, end_tag}
use borrow.Author.Rules.{rules}
use Rattle.items.proofs.end_tag.Goals as goal

pub returns-then-byte_at-eq62 : goal.returns-then-byte_at-eq62
unfolding end_tag end_name end_close
returns-then-byte_at-eq62 c = record { item = simp (eq-eqb _ _ c.if-byte_at-eq62.true, ← c.byte_at-then-is_name_start.ensures, ← c.white_len.ensures.run, ← c.rest-then-is_name_start.ensures.list, ← c.name_len-n.ensures.run, ← c.rest.ensures.list, c.if-is_name_start.true, ← c.is_name_start.ensures, ← c.byte_at.ensures); size = search rules }

pub returns-else-byte_at-eq62 : goal.returns-else-byte_at-eq62
unfolding end_tag end_name end_close
returns-else-byte_at-eq62 c = record { item = simp (ne_eqb _ _ c.if-byte_at-eq62.false, ← c.byte_at-then-is_name_start.ensures, ← c.white_len.ensures.run, ← c.rest-then-is_name_start.ensures.list, ← c.name_len-n.ensures.run, ← c.rest.ensures.list, c.if-is_name_start.true, ← c.is_name_start.ensures, ← c.byte_at.ensures); size = search rules }

pub returns-else-is_name_start : goal.returns-else-is_name_start
unfolding end_tag end_name end_close
returns-else-is_name_start c = record { item = simp (c.if-is_name_start.false, ← c.is_name_start.ensures, ← c.byte_at.ensures); size = search rules }
