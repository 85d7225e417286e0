use Rattle.views.proofs.Inside.{start-inside, empty-inside}
use Rattle.views.specs.Shown.{item_counts, item_shows}
use Rattle.views.proofs.cells.show_item.Goals as goal

pub open_tag-requires : goal.open_tag-requires
open_tag-requires c = record { rows = c.requires.rows; few = c.requires.few; inside = start-inside c.in-Start.is c.requires.inside }

pub open_tag-requires-in-Empty : goal.open_tag-requires-in-Empty
open_tag-requires-in-Empty c = record { rows = c.requires.rows; few = c.requires.few; inside = empty-inside c.in-Empty.is c.requires.inside }

pub returns-in-Start : goal.returns-in-Start
unfolding item_counts item_shows
returns-in-Start c = record { counts = simp (c.in-Start.is, ← c.open_tag.ensures.counts); shows = simp (c.in-Start.is, ← c.open_tag.ensures.shows) }

pub returns-in-Empty : goal.returns-in-Empty
unfolding item_counts item_shows
returns-in-Empty c = record { counts = simp (c.in-Empty.is, ← c.open_tag-in-Empty.ensures.counts); shows = simp (c.in-Empty.is, ← c.open_tag-in-Empty.ensures.shows) }

pub returns-in-End : goal.returns-in-End
unfolding item_counts item_shows
returns-in-End c = record { counts = simp c.in-End.is; shows = simp c.in-End.is }

pub returns-in-Text : goal.returns-in-Text
unfolding item_counts item_shows
returns-in-Text c = record { counts = simp c.in-Text.is; shows = simp c.in-Text.is }

pub returns-in-Comment : goal.returns-in-Comment
unfolding item_counts item_shows
returns-in-Comment c = record { counts = simp c.in-Comment.is; shows = simp c.in-Comment.is }

pub returns-in-Unreadable : goal.returns-in-Unreadable
unfolding item_counts item_shows
returns-in-Unreadable c = record { counts = simp c.in-Unreadable.is; shows = simp c.in-Unreadable.is }
