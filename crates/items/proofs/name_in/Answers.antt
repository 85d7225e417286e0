use Rattle.items.specs.Parts.{name_in}
use Rattle.items.proofs.name_in.Goals as goal

pub returns-in-Start : goal.returns-in-Start
unfolding name_in
returns-in-Start c = simp (← c.part.ensures, c.in-Start.is)

pub returns-in-Empty : goal.returns-in-Empty
unfolding name_in
returns-in-Empty c = simp (← c.part-in-Empty.ensures, c.in-Empty.is)

pub returns-in-End : goal.returns-in-End
unfolding name_in
returns-in-End c = simp (← c.part-in-End.ensures, c.in-End.is)

pub returns-in-Text : goal.returns-in-Text
unfolding name_in
returns-in-Text c = simp (← c.part-in-Text.ensures, c.in-Text.is)

pub returns-in-Comment : goal.returns-in-Comment
unfolding name_in
returns-in-Comment c = simp (← c.part-in-Comment.ensures, c.in-Comment.is)

pub returns-in-Unreadable : goal.returns-in-Unreadable
unfolding name_in
returns-in-Unreadable c = simp (← c.part-in-Unreadable.ensures, c.in-Unreadable.is)
