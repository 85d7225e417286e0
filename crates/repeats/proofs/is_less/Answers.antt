use borrow.Author.Rules.{rules}
use Rattle.repeats.proofs.Order.{compared}
use Rattle.repeats.proofs.is_less.Goals as goal

pub loop-i-init : goal.loop-i-init
loop-i-init c = search (compared, rules)

pub returns-then-x-i : goal.returns-then-x-i
returns-then-x-i c = search (compared, rules)

pub returns-then-x-i-2 : goal.returns-then-x-i-2
returns-then-x-i-2 c = search (compared, rules)

pub returns-then-y-i : goal.returns-then-y-i
returns-then-y-i c = search (compared, rules)

pub loop-i-preserved : goal.loop-i-preserved
loop-i-preserved c = search (compared, rules)

pub returns : goal.returns
returns c = search (compared, rules)
