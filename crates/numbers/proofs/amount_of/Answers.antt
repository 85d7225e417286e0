use mathlib.Core.Path.{◌∙◌}
use Rattle.numbers.proofs.Forms.{amount-is}
use Rattle.numbers.proofs.amount_of.Goals as goal

pub returns : goal.returns
returns c = c.signed_of.ensures ∙ amount-is _ c.minus_len-n.ensures.sign c.minus_len-n.ensures.left c.rest.ensures.list c.unsigned_of.ensures.parts
