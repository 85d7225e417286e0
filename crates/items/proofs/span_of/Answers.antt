use Rattle.items.specs.Parts.{span_of}
use Rattle.items.proofs.span_of.Goals as goal

pub returns-in-Start : goal.returns-in-Start
unfolding span_of
returns-in-Start c = simp c.in-Start.is

pub returns-in-Empty : goal.returns-in-Empty
unfolding span_of
returns-in-Empty c = simp c.in-Empty.is

pub returns-in-End : goal.returns-in-End
unfolding span_of
returns-in-End c = simp c.in-End.is

pub returns-in-Text : goal.returns-in-Text
unfolding span_of
returns-in-Text c = simp c.in-Text.is

pub returns-in-Comment : goal.returns-in-Comment
unfolding span_of
returns-in-Comment c = simp c.in-Comment.is

pub returns-in-Unreadable : goal.returns-in-Unreadable
unfolding span_of
returns-in-Unreadable c = simp c.in-Unreadable.is
