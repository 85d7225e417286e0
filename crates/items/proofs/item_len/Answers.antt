use Rattle.items.proofs.item_len.Goals as goal

pub returns-in-Start : goal.returns-in-Start
returns-in-Start c = simp c.in-Start.is

pub returns-in-Empty : goal.returns-in-Empty
returns-in-Empty c = simp c.in-Empty.is
