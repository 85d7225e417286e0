use mathlib.Core.Path.{ap, ◌∙◌}
use lib.ListN.{length, length-drop}
use Rattle.lists.proofs.Loans.{rest_part, rest-none}
use Rattle.slices.proofs.rest.Goals as goal

pub returns-then-n-s : goal.returns-then-n-s
returns-then-n-s c = let e = rest_part c.args.n c.args.s.now in
    record { list = e; size = ap length e ∙ simp length-drop }

pub returns-else-n-s : goal.returns-else-n-s
returns-else-n-s c = let e = rest-none c.args.n c.args.s.now c.if-n-s.false in
    record { list = e; size = ap length e ∙ simp length-drop }
