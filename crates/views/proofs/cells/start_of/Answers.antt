use mathlib.Core.Path.{ap}
use native.Mathlib.Omega.{arith}
use lib.ListN.{length}
use Rattle.reader.proofs.Spans.{quoted-le}
use Rattle.views.specs.Shown.{value_start}
use Rattle.views.proofs.cells.start_of.Goals as goal

pub overflow_cast-result : goal.overflow_cast-result
overflow_cast-result c = omega (arith, c.leading_spaces.ensures.size, ap length c.quoted_of.ensures, quoted-le c.args.x c.args.s.now)

pub returns-then-drops : goal.returns-then-drops
unfolding value_start
returns-then-drops c = simp (← c.leading_spaces.ensures.lead, ← c.quoted_of.ensures, c.if-drops.true, c.if-is_there.true, ← c.is_there.ensures)

pub returns-then-is_there : goal.returns-then-is_there
unfolding value_start
returns-then-is_there c = simp (c.if-drops.false, c.if-is_there.true, ← c.is_there.ensures)

pub returns : goal.returns
unfolding value_start
returns c = simp (c.if-is_there.false, ← c.is_there.ensures)
