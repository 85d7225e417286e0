use mathlib.Core.Path.{refl, sym}
use borrow.Author.Tests.{le-leb, lt-leb}
use Rattle.fitting.specs.Told.{count_lent}
use Rattle.fitting.proofs.rows.is_count_lent.Goals as goal

pub returns-then-n-lt1 : goal.returns-then-n-lt1
unfolding count_lent
returns-then-n-lt1 c = rw (lt-leb _ _ c.if-n-lt1.true) refl

pub returns-then-pairs-n : goal.returns-then-pairs-n
unfolding count_lent
returns-then-pairs-n c = rw (le-leb _ _ c.if-n-lt1.false, lt-leb _ _ c.if-pairs-n.true) refl

pub returns : goal.returns
unfolding count_lent
returns c = rw (le-leb _ _ c.if-n-lt1.false, le-leb _ _ c.if-pairs-n.false, sym c.rows_in.ensures) refl
