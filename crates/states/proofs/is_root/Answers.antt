use Rattle.states.proofs.is_root.Goals as goal

pub returns : goal.returns
returns c = simp (← c.role_of.ensures)
