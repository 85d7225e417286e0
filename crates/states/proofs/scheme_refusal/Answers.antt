use borrow.Author.Tests.{eq-eqb, ne_eqb}
use Rattle.states.specs.Attributes.{scheme_refusal}
use Rattle.trims.proofs.Trimming.{trimmed-says}
use Rattle.states.proofs.scheme_refusal.Goals as goal

pub returns-then-k-eq-NO_SCHEME : goal.returns-then-k-eq-NO_SCHEME
unfolding scheme_refusal
returns-then-k-eq-NO_SCHEME c = simp (eq-eqb _ _ c.if-k-eq-NO_SCHEME.true, ← c.scheme_of-k.ensures)

pub returns-then-is_listed : goal.returns-then-is_listed
unfolding scheme_refusal
returns-then-is_listed c = simp (c.if-is_listed.true, ← c.is_listed.ensures, ← trimmed-says, ← c.trimmed.ensures, ← c.part.ensures, ne_eqb _ _ c.if-k-eq-NO_SCHEME.false, ← c.scheme_of-k.ensures)

pub returns : goal.returns
unfolding scheme_refusal
returns c = simp (c.if-is_listed.false, ← c.is_listed.ensures, ← trimmed-says, ← c.trimmed.ensures, ← c.part.ensures, ne_eqb _ _ c.if-k-eq-NO_SCHEME.false, ← c.scheme_of-k.ensures)
