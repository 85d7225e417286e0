-- `lines::line_at` meets its contract.
-- Assumes nothing.
use mathlib.Core.Path.{◌∙◌, ap}
use native.Mathlib.Omega.{arith}
use lib.ListN.{length, length-drop}
use Rattle.lines.specs.Text.{line_of}
use Rattle.lines.proofs.Cuts.{piece-is-line, piece-size}
use Rattle.lines.proofs.line_at.Goals as goal

pub returns : goal.returns
returns c = record {
  line = c.first_piece.ensures ∙ piece-is-line _ ∙ ap line_of c.behind.ensures;
  size = omega (arith, ap length c.first_piece.ensures, piece-size 10 c.behind.result.now, ap length c.behind.ensures, length-drop c.args.at c.args.s.now);
}
