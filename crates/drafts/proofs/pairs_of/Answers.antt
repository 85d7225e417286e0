use native.Mathlib.Omega.{arith}
use Rattle.drafts.specs.Pairs.{pairs_of}
use Rattle.drafts.proofs.pairs_of.Goals as goal

pub returns-then-asks_scheme : goal.returns-then-asks_scheme
unfolding pairs_of
returns-then-asks_scheme c = record { many = simp (c.if-asks_scheme.true, ← c.asks_scheme.ensures); size = omega arith }

pub returns-else-asks_scheme : goal.returns-else-asks_scheme
unfolding pairs_of
returns-else-asks_scheme c = record { many = simp (c.if-asks_scheme.false, ← c.asks_scheme.ensures); size = omega arith }
