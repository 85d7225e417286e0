use mathlib.Core.Path.{sym, ap, ◌∙◌}
use mathlib.Core.Bool.{not}
use Rattle.std.proofs.Math.Bool.{not-not}
use Rattle.numbers.proofs.Forms.{over-none}
use Rattle.numbers.proofs.is_over.Goals as goal

pub returns : goal.returns
returns c = sym (not-not c.is_none.result) ∙ ap not (sym c.is_none.ensures) ∙ over-none c.args.v.now c.said_at.ensures.said c.said_at.ensures.size.0
