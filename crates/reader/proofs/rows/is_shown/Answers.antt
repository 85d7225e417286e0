use mathlib.Core.Path.{sym, ◌∙◌}
use Rattle.characters.proofs.Alike.{otherwise}
use Rattle.reader.proofs.rows.is_shown.Goals as goal

pub returns-then-ends_otherwise : goal.returns-then-ends_otherwise
returns-then-ends_otherwise c = let e = rw c.requires at c.ends_otherwise.ensures in
    rw (← c.view_of-shown.ensures) (otherwise c.view_of-shown.result.now c.args.id.now (sym e ∙ c.if-ends_otherwise.true))

pub returns : goal.returns
returns c = simp (← c.says_same.ensures, ← c.view_of-shown.ensures)
