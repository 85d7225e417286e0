use borrow.Author.Tests.{eq-eqb, le-ltb, lt-ltb, ne_eqb}
use Rattle.items.specs.Text.{text_to, text_item}
use borrow.Author.Rules.{rules}
use Rattle.items.proofs.any_text.Goals as goal

pub returns-then-n-eq0 : goal.returns-then-n-eq0
unfolding text_item text_to
returns-then-n-eq0 c = record { item = simp (eq-eqb _ _ c.if-n-eq0.true, ← c.first_at-n.ensures.place); size = search rules }

pub returns-then-white_len-n : goal.returns-then-white_len-n
unfolding text_item text_to
returns-then-white_len-n c = record { item = simp (eq-eqb _ _ c.if-white_len-n.true, ← c.white_len.ensures.run, ne_eqb _ _ c.if-n-eq0.false, ← c.first_at-n.ensures.place); size = search rules }

pub returns-then-first_at-n : goal.returns-then-first_at-n
unfolding text_item text_to
returns-then-first_at-n c = record { item = simp (lt-ltb _ _ c.if-first_at-n.true, ← c.first_at.ensures.place, c.if-all_chars.true, ← c.all_chars.ensures, ← c.front-t.ensures.list, ne_eqb _ _ c.if-white_len-n.false, ← c.white_len.ensures.run, ne_eqb _ _ c.if-n-eq0.false, ← c.first_at-n.ensures.place); size = search rules }

pub returns-then-first_at-n-2 : goal.returns-then-first_at-n-2
unfolding text_item text_to
returns-then-first_at-n-2 c = record { item = simp (lt-ltb _ _ c.if-first_at-n-2.true, ← c.first_at-then-all_chars.ensures.place, le-ltb _ _ c.if-first_at-n.false, ← c.first_at.ensures.place, c.if-all_chars.true, ← c.all_chars.ensures, ← c.front-t.ensures.list, ne_eqb _ _ c.if-white_len-n.false, ← c.white_len.ensures.run, ne_eqb _ _ c.if-n-eq0.false, ← c.first_at-n.ensures.place); size = search rules }

pub returns-then-all_chars : goal.returns-then-all_chars
unfolding text_item text_to
returns-then-all_chars c = record { item = simp (le-ltb _ _ c.if-first_at-n-2.false, ← c.first_at-then-all_chars.ensures.place, le-ltb _ _ c.if-first_at-n.false, ← c.first_at.ensures.place, c.if-all_chars.true, ← c.all_chars.ensures, ← c.front-t.ensures.list, ne_eqb _ _ c.if-white_len-n.false, ← c.white_len.ensures.run, ne_eqb _ _ c.if-n-eq0.false, ← c.first_at-n.ensures.place); size = search rules }

pub returns : goal.returns
unfolding text_item text_to
returns c = record { item = simp (c.if-all_chars.false, ← c.all_chars.ensures, ← c.front-t.ensures.list, ne_eqb _ _ c.if-white_len-n.false, ← c.white_len.ensures.run, ne_eqb _ _ c.if-n-eq0.false, ← c.first_at-n.ensures.place); size = search rules }
