-- `lines::first_piece` meets its contract. The invariant is `Passed`.
-- Assumes nothing.
use native.Mathlib.Numerals.{add-one}
use Rattle.lines.proofs.Cuts.{piece-next, piece-stop, piece-end}
use Rattle.lines.proofs.first_piece.Goals as goal

pub returns-then-s-i : goal.returns-then-s-i
returns-then-s-i c = piece-stop _ _ _ c.loop-i.invariant c.loop-i-test.true c.if-s-i.true

pub loop-i-preserved : goal.loop-i-preserved
loop-i-preserved c = rw add-one (piece-next _ _ _ c.loop-i.invariant c.loop-i-test.true c.if-s-i.false)

pub returns : goal.returns
returns c = piece-end _ _ _ c.loop-i.invariant c.loop-i-test.false
