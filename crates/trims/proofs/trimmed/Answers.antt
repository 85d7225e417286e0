use mathlib.Core.Path.{sym, ◌∙◌}
use Rattle.trims.proofs.Trimming.{bare-all}
use Rattle.trims.proofs.trimmed.Goals as goal

pub returns-then-is_bare_at_ends : goal.returns-then-is_bare_at_ends
returns-then-is_bare_at_ends c = bare-all c.args.v.now (sym c.is_bare_at_ends.ensures ∙ c.if-is_bare_at_ends.true)

pub returns : goal.returns
returns c = c.without_spaces.ensures
