use mathlib.Core.List.{[], ◌∷◌}
use Rattle.slices.proofs.Sames.{sames-long}
use Rattle.tags.proofs.Names.{one_byte}
use Rattle.tags.proofs.is_v.Goals as goal

pub returns-then-name-eq1 : goal.returns-then-name-eq1
returns-then-name-eq1 c = one_byte c.args.name.now c.if-name-eq1.true

pub returns-else-name-eq1 : goal.returns-else-name-eq1
returns-else-name-eq1 c = sames-long c.args.name.now (118 ∷ []) c.if-name-eq1.false
