use Rattle.items.specs.Parts.{passed}
use Rattle.items.proofs.is_passed.Goals as goal

pub returns-in-Start : goal.returns-in-Start
unfolding passed
returns-in-Start c = simp c.in-Start.is

pub returns-in-Empty : goal.returns-in-Empty
unfolding passed
returns-in-Empty c = simp c.in-Empty.is

pub returns-in-End : goal.returns-in-End
unfolding passed
returns-in-End c = simp c.in-End.is

pub returns-in-Text : goal.returns-in-Text
unfolding passed
returns-in-Text c = simp c.in-Text.is

pub returns-in-Comment : goal.returns-in-Comment
unfolding passed
returns-in-Comment c = simp c.in-Comment.is

pub returns-in-Unreadable : goal.returns-in-Unreadable
unfolding passed
returns-in-Unreadable c = simp c.in-Unreadable.is
