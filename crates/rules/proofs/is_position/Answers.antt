use borrow.Author.Tests.{eq-eqb, le-ltb, lt-ltb, ne_eqb}
use Rattle.rules.specs.Rules.{position_fits}
use Rattle.rules.proofs.is_position.Goals as goal

pub returns-then-quarters-p : goal.returns-then-quarters-p
unfolding position_fits
returns-then-quarters-p c = simp (lt-ltb _ _ c.if-quarters-p.true)

pub returns-then-kind_at : goal.returns-then-kind_at
unfolding position_fits
returns-then-kind_at c = simp (← c.is_next.ensures, c.if-kind_at.true, ← c.kind_at.ensures, le-ltb _ _ c.if-quarters-p.false)

pub returns-then-last-eq0 : goal.returns-then-last-eq0
unfolding position_fits
returns-then-last-eq0 c = simp (eq-eqb _ _ c.if-last-eq0.true, c.if-kind_at.false, ← c.kind_at.ensures, le-ltb _ _ c.if-quarters-p.false)

pub returns : goal.returns
unfolding position_fits
returns c = simp (ne_eqb _ _ c.if-last-eq0.false, c.if-kind_at.false, ← c.kind_at.ensures, le-ltb _ _ c.if-quarters-p.false)
