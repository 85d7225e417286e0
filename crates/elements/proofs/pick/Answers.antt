use Rattle.elements.proofs.Rows.{pick_yes, pick_no}
use Rattle.elements.proofs.pick.Goals as goal

pub returns-then-is_same : goal.returns-then-is_same
returns-then-is_same c = pick_yes _ _ _ _ _ c.is_same.ensures c.if-is_same.true

pub returns : goal.returns
returns c = pick_no _ _ _ _ _ c.is_same.ensures c.if-is_same.false
