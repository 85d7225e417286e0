use Rattle.rules.specs.Rules.{unless}
use Rattle.rules.proofs.refused_unless.Goals as goal

pub returns-then-fits : goal.returns-then-fits
unfolding unless
returns-then-fits c = simp c.if-fits.true

pub returns-else-fits : goal.returns-else-fits
unfolding unless
returns-else-fits c = simp c.if-fits.false
