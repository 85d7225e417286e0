-- `putting::put_scheme` meets its contract.
-- Assumes nothing.
use Rattle.slices.specs.Text.{text}
use Rattle.putting.specs.Sheet.{attribute_of}
use Rattle.putting.proofs.Landing.{took, told, put-none}
use Rattle.putting.proofs.Singles.{no-scheme, a-scheme}
use Rattle.putting.proofs.put_scheme.Goals as goal

pub returns-then-asks_scheme : goal.returns-then-asks_scheme
returns-then-asks_scheme c = let it = told
    (a-scheme c.args.text.now c.args.pairs.now c.args.w c.args.k _ c.asks_scheme.ensures c.if-asks_scheme.true)
    (took (attribute_of (text " codingScheme=\"") c.args.text.now c.args.pairs.now _) (c.put_attribute.ensures.answer, c.put_attribute.ensures.buffer)) in record { answer = it.0; buffer = it.1 }

pub returns : goal.returns
returns c = let it = told (no-scheme c.args.text.now c.args.pairs.now c.args.w c.args.k _ c.asks_scheme.ensures c.if-asks_scheme.false) (put-none _ _ c.requires.place) in record { answer = it.0; buffer = it.1 }
