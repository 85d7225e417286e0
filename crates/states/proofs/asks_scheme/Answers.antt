use borrow.Author.Tests.{eq-eqb, ne_eqb}
use Rattle.states.specs.Attributes.{asks_scheme}
use Rattle.states.proofs.asks_scheme.Goals as goal

pub returns-then-scheme_of-eq-NO_SCHEME : goal.returns-then-scheme_of-eq-NO_SCHEME
unfolding asks_scheme
returns-then-scheme_of-eq-NO_SCHEME c = simp (eq-eqb _ _ c.if-scheme_of-eq-NO_SCHEME.true, ← c.scheme_of.ensures)

pub returns-else-scheme_of-eq-NO_SCHEME : goal.returns-else-scheme_of-eq-NO_SCHEME
unfolding asks_scheme
returns-else-scheme_of-eq-NO_SCHEME c = simp (ne_eqb _ _ c.if-scheme_of-eq-NO_SCHEME.false, ← c.scheme_of.ensures)
