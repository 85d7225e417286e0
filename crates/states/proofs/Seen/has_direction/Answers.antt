use Rattle.states.proofs.Seen.has_direction.Goals as goal

pub returns-then-self-2 : goal.returns-then-self-2
returns-then-self-2 c = simp (c.if-self-2.true, c.if-self.true)
