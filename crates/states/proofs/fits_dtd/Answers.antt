use Rattle.states.specs.Attributes.{dtd_fits}
use Rattle.states.proofs.fits_dtd.Goals as goal

pub returns-then-meets_demand-2 : goal.returns-then-meets_demand-2
unfolding dtd_fits
returns-then-meets_demand-2 c = simp (← c.meets_demand-then-meets_demand-2.ensures, ← c.is_there-then-meets_demand-2.ensures, c.if-meets_demand-2.true, ← c.meets_demand-then-meets_demand.ensures, ← c.is_there-then-meets_demand.ensures, c.if-meets_demand.true, ← c.meets_demand.ensures, ← c.is_there.ensures)

pub returns-else-meets_demand-2 : goal.returns-else-meets_demand-2
unfolding dtd_fits
returns-else-meets_demand-2 c = simp (c.if-meets_demand-2.false, ← c.meets_demand-then-meets_demand.ensures, ← c.is_there-then-meets_demand.ensures, c.if-meets_demand.true, ← c.meets_demand.ensures, ← c.is_there.ensures)

pub returns-else-meets_demand : goal.returns-else-meets_demand
unfolding dtd_fits
returns-else-meets_demand c = simp (c.if-meets_demand.false, ← c.meets_demand.ensures, ← c.is_there.ensures)
