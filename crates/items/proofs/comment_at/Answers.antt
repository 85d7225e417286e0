use borrow.Author.Tests.{eq-eqb, ne_eqb}
use Rattle.items.specs.Comment.{comment_to, comment}
use borrow.Author.Rules.{rules}
use Rattle.items.proofs.comment_at.Goals as goal

pub returns-then-all_chars : goal.returns-then-all_chars
unfolding comment comment_to
returns-then-all_chars c = record { reach = simp (c.if-all_chars.true, ← c.all_chars.ensures, ← c.front.ensures.list, eq-eqb _ _ c.if-byte_at-eq62.true, ← c.byte_at.ensures, ← c.first_at-n.ensures.place); size = search rules }

pub returns-else-all_chars : goal.returns-else-all_chars
unfolding comment comment_to
returns-else-all_chars c = record { reach = simp (c.if-all_chars.false, ← c.all_chars.ensures, ← c.front.ensures.list, eq-eqb _ _ c.if-byte_at-eq62.true, ← c.byte_at.ensures, ← c.first_at-n.ensures.place); size = search rules }

pub returns-else-byte_at-eq62 : goal.returns-else-byte_at-eq62
unfolding comment comment_to
returns-else-byte_at-eq62 c = record { reach = simp (ne_eqb _ _ c.if-byte_at-eq62.false, ← c.byte_at.ensures, ← c.first_at-n.ensures.place); size = search rules }
