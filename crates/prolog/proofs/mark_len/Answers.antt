use Rattle.prolog.specs.Prolog.{mark_len}
use borrow.Author.Rules.{rules}
use Rattle.prolog.proofs.mark_len.Goals as goal

pub returns-then-begins_with : goal.returns-then-begins_with
unfolding mark_len
returns-then-begins_with c = record { len = simp (c.if-begins_with.true, ← c.begins_with.ensures); size = search rules }

pub returns-else-begins_with : goal.returns-else-begins_with
unfolding mark_len
returns-else-begins_with c = record { len = simp (c.if-begins_with.false, ← c.begins_with.ensures); size = search rules }
