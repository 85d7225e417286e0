use borrow.Author.Tests.{eq-eqb, ne_eqb}
use Rattle.states.specs.Moves.{root_kind, kind_told}
use Rattle.states.proofs.State.kind_told.Goals as goal

pub returns-in-Start : goal.returns-in-Start
unfolding kind_told root_kind
returns-in-Start c = simp (← c.kind_of_root.ensures, ← c.element_no.ensures, ← c.part.ensures, c.in-Start.is, eq-eqb _ _ c.if-self-eq0.true)

pub returns-in-Empty : goal.returns-in-Empty
unfolding kind_told root_kind
returns-in-Empty c = simp (← c.kind_of_root-in-Empty.ensures, ← c.element_no-in-Empty.ensures, ← c.part-in-Empty.ensures, c.in-Empty.is, eq-eqb _ _ c.if-self-eq0.true)

pub returns-in-End : goal.returns-in-End
unfolding kind_told root_kind
returns-in-End c = simp (c.in-End.is, eq-eqb _ _ c.if-self-eq0.true)

pub returns-in-Text : goal.returns-in-Text
unfolding kind_told root_kind
returns-in-Text c = simp (c.in-Text.is, eq-eqb _ _ c.if-self-eq0.true)

pub returns-in-Comment : goal.returns-in-Comment
unfolding kind_told root_kind
returns-in-Comment c = simp (c.in-Comment.is, eq-eqb _ _ c.if-self-eq0.true)

pub returns-in-Unreadable : goal.returns-in-Unreadable
unfolding kind_told root_kind
returns-in-Unreadable c = simp (c.in-Unreadable.is, eq-eqb _ _ c.if-self-eq0.true)

pub returns : goal.returns
unfolding kind_told root_kind
returns c = simp (ne_eqb _ _ c.if-self-eq0.false)
