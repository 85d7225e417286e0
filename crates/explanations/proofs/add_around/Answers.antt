-- `explanations::add_around` meets its contract: the three texts, one after the other.
-- Assumes nothing.
use Rattle.explanations.specs.Decimal.{decimal, around}
use Rattle.explanations.proofs.Adding.{adds-more}
use Rattle.explanations.proofs.add_around.Goals as goal

pub returns : goal.returns
unfolding around
returns c = let it = adds-more c.args.before.now _ c.args.out.now _ _ c.args.at _ _ (c.add_text-first.ensures.next, c.add_text-first.ensures.text)
    (adds-more (decimal c.args.n) c.args.after.now _ _ _ _ _ _ (c.add_number-second.ensures.next, c.add_number-second.ensures.text) (c.add_text.ensures.next, c.add_text.ensures.text)) in record { next = it.0; text = it.1 }
