use mathlib.Core.Logic.{⊎_elim}
use native.Mathlib.Omega.{arith}
use Rattle.prolog.proofs.Promises.{refused-place}
use mathlib.Core.Path.{sym, ◌∙◌}
use Rattle.reader.specs.Reading.{tab, room_in}
use Rattle.reader.proofs.Sheets.{into-items, into-unread}
use Rattle.reader.proofs.read_all.Goals as goal

pub overflow_cast-p : goal.overflow_cast-p
overflow_cast-p c = ⊎_elim (λ z. omega (arith, z)) (λ z. omega (arith, z)) (refused-place _ _ (sym c.first_item.ensures.begin ∙ c.in-Err.is))

pub returns-in-Ok : goal.returns-in-Ok
unfolding room_in
returns-in-Ok c = let e = into-items _ _ _ c.room_of-room.ensures (sym c.first_item.ensures.begin ∙ c.in-Ok.is) in c.read_items.ensures ∙ e

pub returns-in-Err : goal.returns-in-Err
returns-in-Err c = let e = into-unread _ (tab c.args.series.now c.args.positions.now c.args.amounts.now) _ (sym c.first_item.ensures.begin ∙ c.in-Err.is) in rw c.refused_first.ensures e
