use Rattle.states.specs.Moves.{beside_others}
use Rattle.states.proofs.State.beside_others.Goals as goal

pub returns-then-is_against_others : goal.returns-then-is_against_others
unfolding beside_others
returns-then-is_against_others c = simp (c.if-is_against_others.true, ← c.is_against_others.ensures)

pub returns : goal.returns
unfolding beside_others
returns c = simp (c.if-is_against_others.false, ← c.is_against_others.ensures)
