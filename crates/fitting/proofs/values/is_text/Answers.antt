use borrow.Author.Tests.{le-leb, lt-leb}
use Rattle.fitting.specs.Told.{is_text}
use Rattle.fitting.proofs.Judging.{as-shown}
use Rattle.fitting.proofs.values.is_text.Goals as goal

pub returns-then-text-number_at : goal.returns-then-text-number_at
unfolding is_text
returns-then-text-number_at c = simp (lt-leb _ _ c.if-text-number_at.true, ← c.number_at-2.ensures, ← c.number_at.ensures)

pub returns : goal.returns
unfolding is_text
returns c = simp (← c.all_chars.ensures, as-shown c.args.text.now c.args.pairs.now c.args.k c.shown.ensures, le-leb _ _ c.if-text-number_at.false, ← c.number_at-2.ensures, ← c.number_at.ensures)
