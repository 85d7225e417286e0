use Rattle.lists.proofs.Loans.{rest_part, rest-none}
use Rattle.guideline.proofs.rows_from.Goals as goal

pub returns-then-n-rows : goal.returns-then-n-rows
returns-then-n-rows c = rest_part c.args.n c.args.rows.now

pub returns-else-n-rows : goal.returns-else-n-rows
returns-else-n-rows c = rest-none c.args.n c.args.rows.now c.if-n-rows.false
