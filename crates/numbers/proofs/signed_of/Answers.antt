use Rattle.numbers.proofs.Forms.{plain-is, negated_back}
use Rattle.numbers.specs.Amount.{signed}
use Rattle.numbers.specs.Parts.{signed_of}
use Rattle.numbers.proofs.signed_of.Goals as goal

pub returns-in_err-n : goal.returns-in_err-n
unfolding signed_of signed
returns-in_err-n c = rw c.in_err-n.was c.from_residual.ensures

pub returns-then-minus : goal.returns-then-minus
unfolding signed_of signed
returns-then-minus c = let h = rw c.in_ok-n.was at c.requires in rw (c.in_ok-n.was, c.if-minus.true, negated_back _ h)

pub returns-else-minus : goal.returns-else-minus
unfolding signed_of signed
returns-else-minus c = let h = rw c.in_ok-n.was at c.requires in rw (c.in_ok-n.was, c.if-minus.false, plain-is _ h)
