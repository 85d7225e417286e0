use borrow.Author.Tests.{lt-ltb, le-ltb}
use Rattle.fitting.specs.Told.{scheme_told}
use Rattle.fitting.proofs.Judging.{as-trimmed}
use Rattle.fitting.proofs.values.scheme_fits.Goals as goal

pub returns-then-has_ampersand : goal.returns-then-has_ampersand
unfolding scheme_told
returns-then-has_ampersand c = simp (c.if-has_ampersand.true, ← c.has_ampersand.ensures)

pub returns-then-k-lt-BY_LIST : goal.returns-then-k-lt-BY_LIST
unfolding scheme_told
returns-then-k-lt-BY_LIST c = simp (lt-ltb _ _ c.if-k-lt-BY_LIST.true, ← c.scheme_of-k.ensures, c.if-has_ampersand.false, ← c.has_ampersand.ensures)

pub returns : goal.returns
unfolding scheme_told
returns c = simp (← c.is_listed.ensures, as-trimmed _ c.trimmed.ensures, le-ltb _ _ c.if-k-lt-BY_LIST.false, ← c.scheme_of-k.ensures, c.if-has_ampersand.false, ← c.has_ampersand.ensures)
