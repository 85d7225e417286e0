use mathlib.Core.Path.{ap, ◌∙◌}
use native.Mathlib.Omega.{arith}
use lib.ListN.{length}
use Rattle.trims.specs.Trim.{trimmed_of}
use Rattle.trims.proofs.Trimming.{trimmed-length}
use Rattle.reader.specs.Rows.{quoted}
use Rattle.reader.proofs.Spans.{quoted-le}
use Rattle.views.specs.Shown.{value_length}
use Rattle.views.proofs.cells.length_of.Goals as goal

pub overflow_cast-result : goal.overflow_cast-result
overflow_cast-result c = let e = c.trimmed.ensures ∙ ap trimmed_of c.quoted_of.ensures in omega (arith, ap length e, trimmed-length (quoted c.args.x c.args.s.now), quoted-le c.args.x c.args.s.now)

pub returns-then-drops : goal.returns-then-drops
unfolding value_length
returns-then-drops c = simp (← c.trimmed.ensures, ← c.quoted_of.ensures, c.if-drops.true, c.if-is_there.true, ← c.is_there.ensures)

pub returns-then-is_there : goal.returns-then-is_there
unfolding value_length
returns-then-is_there c = simp (c.if-drops.false, c.if-is_there.true, ← c.is_there.ensures)

pub returns : goal.returns
unfolding value_length
returns c = simp (c.if-is_there.false, ← c.is_there.ensures)
