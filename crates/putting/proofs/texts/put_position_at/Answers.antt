-- `putting::texts::put_position_at` meets its contract: a place past the last byte, and any other.
-- Assumes nothing.
use Rattle.putting.proofs.Lent.{none-past, lent-whole}
use Rattle.wholes.specs.Whole.{whole_text}
use Rattle.putting.proofs.texts.put_position_at.Goals as goal

pub returns-then-out-at : goal.returns-then-out-at
returns-then-out-at c = let it = none-past (whole_text c.args.p) _ _ c.if-out-at.true c.requires in record { answer = it.0; buffer = it.1 }

pub returns : goal.returns
returns c = let it = lent-whole (whole_text c.args.p) c.args.out.now _ c.args.at _ _ c.put_position-n.ensures.answer c.put_position-n.ensures.buffer c.after.ensures in record { answer = it.0; buffer = it.1 }
