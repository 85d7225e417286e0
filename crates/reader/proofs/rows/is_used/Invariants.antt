use Rattle.characters.specs.Says.{says}
use mathlib.Core.Path.{◌≡◌}
use Rattle.reader.specs.Rows.{used}
use Rattle.reader.proofs.rows.is_used.Given as goal

abbrev pub invariant-loop-i : goal.invariant-loop-i
invariant-loop-i l = used l.doc l.t l.i (says l.id) ≡ used l.doc l.t l.n (says l.id)

abbrev pub decreases-loop-i : goal.decreases-loop-i
decreases-loop-i l = l.i
