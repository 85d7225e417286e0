use mathlib.Core.Path.{◌∙◌}
use Rattle.characters.specs.Says.{says}
use Rattle.numbers.proofs.Forms.{unsigned-none, unsigned-some, digits-small}
use borrow.Author.Rules.{rules}
use Rattle.numbers.proofs.unsigned_of.Goals as goal

pub returns-then-d-eq0 : goal.returns-then-d-eq0
returns-then-d-eq0 c = record { parts = unsigned-none (says c.args.s.now) c.digits_of-d.ensures.count c.if-d-eq0.true; size = search rules }

pub fraction_of-requires : goal.fraction_of-requires
fraction_of-requires c = digits-small 12 c.digits_of-d.ensures.size.0 c.digits_of-d.ensures.size.1

pub returns : goal.returns
returns c = record { parts = c.fraction_of.ensures.parts ∙ rw (c.rest.ensures.list, c.digits_of-d.ensures.left) (unsigned-some (says c.args.s.now) c.digits_of-d.ensures.count c.if-d-eq0.false c.digits_of-d.ensures.value); size = c.fraction_of.ensures.size }
