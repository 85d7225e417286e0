-- `putting::has_value` meets its contract.
-- Assumes nothing.
use Rattle.putting.proofs.Singles.{value-first, value-scheme, value_none}
use Rattle.putting.proofs.has_value.Goals as goal

pub returns-then-is_given : goal.returns-then-is_given
returns-then-is_given c = value-first c.args.pairs.now c.args.w c.args.k _ c.is_given.ensures c.if-is_given.true

pub returns-then-asks_scheme : goal.returns-then-asks_scheme
returns-then-asks_scheme c = value-scheme c.args.pairs.now c.args.w c.args.k _ c.is_given.ensures c.if-is_given.false _ c.asks_scheme.ensures c.if-asks_scheme.true _ c.is_given-then-asks_scheme.ensures

pub returns : goal.returns
returns c = value_none c.args.pairs.now c.args.w c.args.k _ c.is_given.ensures c.if-is_given.false _ c.asks_scheme.ensures c.if-asks_scheme.false
