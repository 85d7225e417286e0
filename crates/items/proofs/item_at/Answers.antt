use borrow.Author.Tests.{eq-eqb, ne_eqb}
use Rattle.items.specs.Item.{item}
use borrow.Author.Rules.{rules}
use Rattle.items.proofs.item_at.Goals as goal

pub returns-then-b-eq47 : goal.returns-then-b-eq47
unfolding item
returns-then-b-eq47 c = record { item = simp (← c.end_tag.ensures.item, eq-eqb _ _ c.if-b-eq47.true, ← c.byte_at-b.ensures, eq-eqb _ _ c.if-byte_at-eq60.true, ← c.byte_at.ensures); size = search rules }

pub returns-then-b-eq33 : goal.returns-then-b-eq33
unfolding item
returns-then-b-eq33 c = record { item = simp (← c.comment_tag.ensures.item, eq-eqb _ _ c.if-b-eq33.true, ne_eqb _ _ c.if-b-eq47.false, ← c.byte_at-b.ensures, eq-eqb _ _ c.if-byte_at-eq60.true, ← c.byte_at.ensures); size = search rules }

pub returns-then-byte_at-eq60 : goal.returns-then-byte_at-eq60
unfolding item
returns-then-byte_at-eq60 c = record { item = simp (← c.start_tag.ensures.item, ne_eqb _ _ c.if-b-eq33.false, ne_eqb _ _ c.if-b-eq47.false, ← c.byte_at-b.ensures, eq-eqb _ _ c.if-byte_at-eq60.true, ← c.byte_at.ensures); size = search rules }

pub returns : goal.returns
unfolding item
returns c = record { item = simp (← c.text_at.ensures.item, ne_eqb _ _ c.if-byte_at-eq60.false, ← c.byte_at.ensures); size = search rules }
