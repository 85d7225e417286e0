-- `putting::texts::put_escaped_at` meets its contract: a place past the last byte, and any other.
-- Assumes nothing.
use Rattle.putting.proofs.Lent.{none-past, lent-fit}
use Rattle.escapes.specs.Escaped.{escaped}
use Rattle.putting.proofs.texts.put_escaped_at.Goals as goal

pub returns-then-out-at : goal.returns-then-out-at
returns-then-out-at c = let it = none-past (escaped c.args.v.now) _ _ c.if-out-at.true c.requires in record { answer = it.0; buffer = it.1 }

pub returns : goal.returns
returns c = let it = lent-fit (escaped c.args.v.now) c.args.out.now _ c.args.at _ c.if-out-at.false c.put_escaped.ensures.answer c.put_escaped.ensures.buffer in record { answer = it.0; buffer = it.1 }
