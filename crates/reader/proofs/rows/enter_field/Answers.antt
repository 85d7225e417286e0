use mathlib.Core.Path.{ap}
use native.Mathlib.Omega.{arith}
use lib.ListN.{length}
use Rattle.reader.proofs.Spans.{quoted-le}
use Rattle.reader.specs.Rows.{field_after}
use Rattle.reader.proofs.rows.enter_field.Goals as goal

pub set_trimmed-requires : goal.set_trimmed-requires
set_trimmed-requires c =
    let a = c.args in
    omega (arith, ap length c.quoted_of.ensures, quoted-le a.v a.s.now)

pub returns-then-drops_spaces : goal.returns-then-drops_spaces
unfolding field_after
returns-then-drops_spaces c =
    simp (← c.set_trimmed.ensures, ← c.quoted_of.ensures, ← c.last_of-row.ensures, ← c.is_view.ensures, c.if-is_view.true, ← c.drops_spaces.ensures, c.if-drops_spaces.true)

pub returns-else-drops_spaces : goal.returns-else-drops_spaces
unfolding field_after
returns-else-drops_spaces c =
    simp (← c.set_view.ensures, ← c.last_of-row.ensures, ← c.is_view.ensures, c.if-is_view.true, ← c.drops_spaces.ensures, c.if-drops_spaces.false)

pub returns-else-is_view : goal.returns-else-is_view
unfolding field_after
returns-else-is_view c = simp (← c.set_field.ensures, ← c.count_for.ensures, ← c.last_of-row.ensures, ← c.is_view.ensures, c.if-is_view.false)
