use borrow.Author.Tests.{eq-eqb, ne_eqb}
use Rattle.prolog.specs.Prolog.{declared_by, declared}
use borrow.Author.Rules.{rules}
use Rattle.prolog.proofs.declared_to.Goals as goal

pub returns-then-byte_at-eq62 : goal.returns-then-byte_at-eq62
unfolding declared declared_by
returns-then-byte_at-eq62 c = record { begin = simp (eq-eqb _ _ c.if-byte_at-eq62.true, ← c.byte_at-then-byte_at-eq63.ensures, eq-eqb _ _ c.if-byte_at-eq63.true, ← c.byte_at.ensures, ← c.white_len.ensures.run, ← c.rest.ensures.list); size = search rules }

pub returns-else-byte_at-eq62 : goal.returns-else-byte_at-eq62
unfolding declared declared_by
returns-else-byte_at-eq62 c = record { begin = simp (ne_eqb _ _ c.if-byte_at-eq62.false, ← c.byte_at-then-byte_at-eq63.ensures, eq-eqb _ _ c.if-byte_at-eq63.true, ← c.byte_at.ensures, ← c.white_len.ensures.run, ← c.rest.ensures.list); size = search rules }

pub returns-else-byte_at-eq63 : goal.returns-else-byte_at-eq63
unfolding declared declared_by
returns-else-byte_at-eq63 c = record { begin = simp (ne_eqb _ _ c.if-byte_at-eq63.false, ← c.byte_at.ensures, ← c.white_len.ensures.run, ← c.rest.ensures.list); size = search rules }
