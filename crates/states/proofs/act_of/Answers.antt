use Rattle.states.specs.Act.{act_of}
use Rattle.states.proofs.act_of.Goals as goal

pub returns-then-white : goal.returns-then-white
unfolding act_of
returns-then-white c = simp (c.if-white.true, c.in-Text.is)

pub returns-in-Start : goal.returns-in-Start
unfolding act_of
returns-in-Start c = simp c.in-Start.is

pub returns-in-Empty : goal.returns-in-Empty
unfolding act_of
returns-in-Empty c = simp c.in-Empty.is

pub returns-in-End : goal.returns-in-End
unfolding act_of
returns-in-End c = simp c.in-End.is

pub returns-else-white : goal.returns-else-white
unfolding act_of
returns-else-white c = simp (c.if-white.false, c.in-Text.is)

pub returns-in-Comment : goal.returns-in-Comment
unfolding act_of
returns-in-Comment c = simp c.in-Comment.is

pub returns-in-Unreadable : goal.returns-in-Unreadable
unfolding act_of
returns-in-Unreadable c = simp c.in-Unreadable.is
