use Rattle.rules.specs.Judged.{settled}
use Rattle.states.specs.Moves.{judged_at, start_judged}
use Rattle.states.proofs.State.judge_start.Goals as goal

pub returns-then-is_cut_short : goal.returns-then-is_cut_short
unfolding start_judged judged_at settled
returns-then-is_cut_short c = simp (c.if-is_cut_short.true, ← c.is_cut_short.ensures, ← c.row_at-w.ensures)

pub returns-then-has_too_many : goal.returns-then-has_too_many
unfolding start_judged judged_at settled
returns-then-has_too_many c = simp (c.if-has_too_many.true, ← c.has_too_many.ensures, c.if-is_cut_short.false, ← c.is_cut_short.ensures, ← c.role_of-role.ensures, ← c.row_at-w.ensures)

pub returns-then-lacks_room : goal.returns-then-lacks_room
unfolding start_judged judged_at settled
returns-then-lacks_room c = simp (c.if-lacks_room.true, ← c.lacks_room.ensures, c.if-has_too_many.false, ← c.has_too_many.ensures, c.if-is_cut_short.false, ← c.is_cut_short.ensures, ← c.role_of-role.ensures, ← c.row_at-w.ensures)

pub returns-then-has_attributes : goal.returns-then-has_attributes
unfolding start_judged judged_at
returns-then-has_attributes c = simp (c.if-has_attributes.true, ← c.has_attributes.ensures, c.if-lacks_room.false, ← c.lacks_room.ensures, c.if-has_too_many.false, ← c.has_too_many.ensures, c.if-is_cut_short.false, ← c.is_cut_short.ensures, ← c.role_of-role.ensures, ← c.row_at-w.ensures) c.judge_values.ensures

pub returns : goal.returns
unfolding start_judged judged_at settled
returns c = simp (c.if-has_attributes.false, ← c.has_attributes.ensures, c.if-lacks_room.false, ← c.lacks_room.ensures, c.if-has_too_many.false, ← c.has_too_many.ensures, c.if-is_cut_short.false, ← c.is_cut_short.ensures, ← c.role_of-role.ensures, ← c.row_at-w.ensures)
