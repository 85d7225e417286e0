use mathlib.Core.Path.{ap}
use native.Mathlib.Omega.{arith}
use lib.ListN.{length}
use Rattle.trims.proofs.Trimming.{trimmed-length}
use Rattle.reader.proofs.rows.set_trimmed.Goals as goal

pub overflow_cast-len : goal.overflow_cast-len
overflow_cast-len c = let b = c.args.b.now in omega (arith, ap length c.without_spaces-len.ensures, c.leading_spaces.ensures.lead, trimmed-length b)

pub returns : goal.returns
returns c = simp (← c.set_view.ensures, ← c.without_spaces-len.ensures, ← c.leading_spaces.ensures.lead)
