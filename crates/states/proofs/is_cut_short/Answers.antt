use Rattle.states.specs.Moves.{cut_short}
use Rattle.states.proofs.is_cut_short.Goals as goal

pub returns-then-ends_at_once : goal.returns-then-ends_at_once
unfolding cut_short
returns-then-ends_at_once c = simp (c.if-ends_at_once.true, ← c.ends_at_once.ensures, c.if-empty.true)

pub returns-then-empty : goal.returns-then-empty
unfolding cut_short
returns-then-empty c = simp (c.if-ends_at_once.false, ← c.ends_at_once.ensures, c.if-empty.true)

pub returns : goal.returns
unfolding cut_short
returns c = simp c.if-empty.false
