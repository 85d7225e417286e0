use Rattle.states.proofs.Acts.{acted, moved-acted}
use Rattle.states.proofs.State.moved.Goals as goal

pub returns-in-Opens : goal.returns-in-Opens
unfolding acted
returns-in-Opens c = simp (moved-acted, ← c.started.ensures, c.in-Opens.is, ← c.act_of.ensures, ← c.element_no-name.ensures, ← c.name_in.ensures)

pub returns-in-Closes : goal.returns-in-Closes
unfolding acted
returns-in-Closes c = simp (moved-acted, ← c.ended.ensures, c.in-Closes.is, ← c.act_of.ensures, ← c.element_no-name.ensures, ← c.name_in.ensures)

pub returns-in-Passes : goal.returns-in-Passes
unfolding acted
returns-in-Passes c = simp (moved-acted, c.in-Passes.is, ← c.act_of.ensures, ← c.name_in.ensures)

pub returns-in-Refuses : goal.returns-in-Refuses
unfolding acted
returns-in-Refuses c = simp (moved-acted, c.in-Refuses.is, ← c.act_of.ensures, ← c.name_in.ensures)
