use Rattle.states.specs.Attributes.{attributes_fit}
use Rattle.states.proofs.has_attributes.Goals as goal

pub returns-then-fits_dtd : goal.returns-then-fits_dtd
unfolding attributes_fit
returns-then-fits_dtd c = simp (← c.has_no_others.ensures, c.if-fits_dtd.true, ← c.fits_dtd.ensures, ← c.demands_at.ensures, c.if-agrees-2.true, ← c.agrees-then-agrees.ensures, ← c.is_there-then-agrees.ensures, ← c.asks_scheme.ensures, c.if-agrees.true, ← c.agrees.ensures, ← c.is_there.ensures, ← c.asks_v.ensures)

pub returns-else-fits_dtd : goal.returns-else-fits_dtd
unfolding attributes_fit
returns-else-fits_dtd c = simp (c.if-fits_dtd.false, ← c.fits_dtd.ensures, ← c.demands_at.ensures, c.if-agrees-2.true, ← c.agrees-then-agrees.ensures, ← c.is_there-then-agrees.ensures, ← c.asks_scheme.ensures, c.if-agrees.true, ← c.agrees.ensures, ← c.is_there.ensures, ← c.asks_v.ensures)

pub returns-else-agrees-2 : goal.returns-else-agrees-2
unfolding attributes_fit
returns-else-agrees-2 c = simp (c.if-agrees-2.false, ← c.agrees-then-agrees.ensures, ← c.is_there-then-agrees.ensures, ← c.asks_scheme.ensures, c.if-agrees.true, ← c.agrees.ensures, ← c.is_there.ensures, ← c.asks_v.ensures)

pub returns-else-agrees : goal.returns-else-agrees
unfolding attributes_fit
returns-else-agrees c = simp (c.if-agrees.false, ← c.agrees.ensures, ← c.is_there.ensures, ← c.asks_v.ensures)
