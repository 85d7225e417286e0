-- `putting::texts::put_amount_at` meets its contract: a place past the last byte, and any other.
-- Assumes nothing.
use Rattle.putting.proofs.Lent.{none-past, lent-whole}
use Rattle.amounts.specs.Texts.{amount_text}
use mir.Facts.{to_z-of_z}
use Rattle.putting.proofs.texts.put_amount_at.Goals as goal

pub returns-then-out-at : goal.returns-then-out-at
returns-then-out-at c = let it = none-past (amount_text c.args.a) _ _ c.if-out-at.true c.requires in record { answer = it.0; buffer = it.1 }

pub returns : goal.returns
returns c = let e = to_z-of_z c.ranges.a in
    let it = lent-whole (amount_text c.args.a) c.args.out.now _ c.args.at _ _ (rw e at c.put_amount-n.ensures.answer) (rw e at c.put_amount-n.ensures.buffer) c.after.ensures in
    record { answer = it.0; buffer = it.1 }
