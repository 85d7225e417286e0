-- `explanations::add_text` meets its contract: a place past the end, and any other.
-- Assumes nothing.
use Rattle.explanations.proofs.Adding.{adds-out, adds-lent}
use Rattle.explanations.proofs.add_text.Goals as goal

pub returns-then-out-at : goal.returns-then-out-at
returns-then-out-at c = let it = adds-out c.args.s.now c.args.out.now c.args.at c.if-out-at.true in record { next = it.0; text = it.1 }

pub returns : goal.returns
returns c = let it = adds-lent c.args.s.now c.args.out.now _ c.args.at _ c.if-out-at.false c.put_text-n.ensures.count c.put_text-n.ensures.text in record { next = it.0; text = it.1 }
